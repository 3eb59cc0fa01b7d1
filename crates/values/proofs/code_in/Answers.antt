use Rattle.std.proofs.Common.{rules, ◌≡◌, ℕ, length, true, false, List, Bor, sym, ap, ◌∙◌}
use Rattle.std.proofs.lemmas.Iterator.{YieldsList-from_slice, IsFirst-from_position, index_from_first}
use borrow.Author.Tests.{tests}
use Rattle.std.proofs.lemmas.List.{length-map}
use Rattle.octets.specs.Octets.{same}
use Rattle.rules.specs.Values.{code_in}
use Rattle.values.specs.Codes.{code_texts, texts_of}
use Rattle.values.proofs.Turns.{code_here, code_next, code_end, told}
use Rattle.values.proofs.code_in.Goals as goal

pub returns : goal.returns
returns c =
    let code = c.args.code in
    let s = c.args.s.now in
    let w = c.trimmed-value.result.now in
    let e = c.trimmed-value.ensures in
    let all = c.code_texts.result.now in
    let meant = c.code_texts.ensures in
    let yes = λ (t : Bor (List ℕ)). same t.now w ≡ true in
    let no = λ (t : Bor (List ℕ)). same t.now w ≡ false in
    let first = IsFirst-from_position _ _ c.position.result yes no c.position.ensures.ran (YieldsList-from_slice all cc) (λ x q k. search (rules, tests)) (λ x q k. search (rules, tests)) in
    let place = index_from_first (λ (ts : List (Bor (List ℕ))). code_in (texts_of ts) s) yes no (code_end s w e) (code_here s w e) (code_next s w e) all c.position.result first in
    let many : length all ≡ length (code_texts code) = sym (length-map all (λ (t : Bor (List ℕ)). t.now)) ∙ ap (λ (ts : List (List ℕ)). length ts) meant in
    record {
      place = rw (← many) (sym place ∙ ap (λ (ts : List (List ℕ)). code_in ts s) meant);
      known = told yes no all _ c.position.result first place ∙ rw (many, meant);
    }
