-- Check 6: each way out as the code tells it, for a UID sent with N-CREATE and for an instance asked for.
-- Assumes nothing.
use Prim.Native.Nat.{ℕ}
use mathlib.Core.Path.{◌≡◌}
use mathlib.Core.Bool.{Bool, true, false}
use mathlib.Core.List.{List}
use borrow.Author.Tests.{eq-eqb, ne_eqb}
use Rattle.choice.specs.Rules.{first_broken}
use Rattle.uids.specs.Uids.{is_uid, begins_with}
use Rattle.headers.specs.declared.Part.{Part}
use Rattle.rules.specs.declared.Core.{Core}
use Rattle.rules.specs.declared.Instance.{Instance}
use Rattle.rules.specs.Records.{root_of, named}
use Rattle.rules.specs.Commands.{size, uid_at}
use Rattle.records.specs.Places.{numbers_in, core_in}
use Rattle.records.proofs.Parts.{core_numbers}
use Rattle.rules.specs.declared.Class.{Class}
use Rattle.rules.specs.Checks.{class_of, is_nobody, of_class, create_rules, target_rules}

module _ (b c : List ℕ) (sent : Part) where
  abbrev AnswersSent : ℕ → Type 0
  AnswersSent n = n ≡ first_broken (create_rules (core_in b) c sent)

  pub none_sent : size sent ≡ 0 → AnswersSent 0
  unfolding create_rules
  none_sent e = rw (eq-eqb _ _ e)

  module _ (some : size sent ≡ 0 → ⊥) (uid : List ℕ) (told-uid : uid ≡ uid_at c sent) (right : Bool) (told-right : right ≡ is_uid uid) where
    pub wrong_sent : right ≡ false → AnswersSent 0x0117
    unfolding create_rules
    wrong_sent e = rw (ne_eqb _ _ some, ← told-uid, ← told-right, e)

    module _ (is_right : right ≡ true) (rooted : Bool) (told-rooted : rooted ≡ begins_with (root_of (numbers_in b)) uid) where
      pub rooted_sent : rooted ≡ true → AnswersSent 0x0117
      unfolding create_rules
      rooted_sent e = rw (ne_eqb _ _ some, ← told-uid, ← told-right, is_right, core_numbers b, ← told-rooted, e)

      module _ (free : rooted ≡ false) (whom : Instance) (told-whom : whom ≡ named (core_in b) uid) (new : Bool) (told-new : new ≡ is_nobody whom) where
        pub taken_sent : new ≡ false → AnswersSent 0x0111
        unfolding create_rules
        taken_sent e = rw (ne_eqb _ _ some, ← told-uid, ← told-right, is_right, core_numbers b, ← told-rooted, free, ← told-whom, ← told-new, e)

        pub new_sent : new ≡ true → AnswersSent 0
        unfolding create_rules
        new_sent e = rw (ne_eqb _ _ some, ← told-uid, ← told-right, is_right, core_numbers b, ← told-rooted, free, ← told-whom, ← told-new, e)

pub ruleset sent-by = (none_sent, wrong_sent, rooted_sent, taken_sent, new_sent)

module _ (k : Core) (c : List ℕ) (class instance : Part) (uid : List ℕ) (whom : Instance) (missing : Bool)
    (told-uid : uid ≡ uid_at c instance) (told-whom : whom ≡ named k uid) (told-missing : missing ≡ is_nobody whom) where
  abbrev AnswersAsked : ℕ → Type 0
  AnswersAsked n = n ≡ first_broken (target_rules k c class instance)

  pub nobody_asked : missing ≡ true → AnswersAsked 0x0112
  unfolding target_rules
  nobody_asked e = rw (← told-uid, ← told-whom, ← told-missing, e)

  module _ (there : missing ≡ false) (class_uid : List ℕ) (told-class-uid : class_uid ≡ uid_at c class) (kind : Class) (told-kind : kind ≡ class_of class_uid) (fits : Bool) (told-fits : fits ≡ of_class kind whom) where
    pub other_asked : fits ≡ false → AnswersAsked 0x0119
    unfolding target_rules
    other_asked e = rw (← told-uid, ← told-whom, ← told-missing, there, ← told-class-uid, ← told-kind, ← told-fits, e)

    pub one_asked : fits ≡ true → AnswersAsked 0
    unfolding target_rules
    one_asked e = rw (← told-uid, ← told-whom, ← told-missing, there, ← told-class-uid, ← told-kind, ← told-fits, e)

pub ruleset target-by = (nobody_asked, other_asked, one_asked)
