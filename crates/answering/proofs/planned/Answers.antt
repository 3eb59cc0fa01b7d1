use mathlib.Core.Path.{ap, subst, ◌∙◌}
use Rattle.rules.specs.Checks.{quietly, plan_of}
use Rattle.records.specs.Places.{core_in}
use Rattle.verdicts.specs.Ready.{UidsIn}
use Rattle.answering.proofs.planned.Goals as goal

pub created-requires : goal.created-requires
created-requires c =
    (c.requires.0, subst (UidsIn c.args.c.now) c.in-Create.is c.requires.1)

pub set-requires : goal.set-requires
set-requires c =
    (c.requires.0, subst (UidsIn c.args.c.now) c.in-Set.is c.requires.1, c.requires.2)

pub acted-requires : goal.acted-requires
acted-requires c =
    (c.requires.0, subst (UidsIn c.args.c.now) c.in-Act.is c.requires.1)

pub deleted-requires : goal.deleted-requires
deleted-requires c =
    (c.requires.0, subst (UidsIn c.args.c.now) c.in-Delete.is c.requires.1)

pub returns-in-Echo : goal.returns-in-Echo
unfolding plan_of
returns-in-Echo c =
    let k = core_in c.args.b.now in
    let told = c.quiet.ensures k in
    (told.0 ∙ rw c.in-Echo.is (ap (quietly k) c.no_name.ensures), told.1)

pub returns-in-Create : goal.returns-in-Create
returns-in-Create c = rw c.in-Create.is c.created.ensures

pub returns-in-Set : goal.returns-in-Set
returns-in-Set c = rw c.in-Set.is c.set.ensures

pub returns-in-Act : goal.returns-in-Act
unfolding plan_of
returns-in-Act c = rw c.in-Act.is c.acted.ensures

pub returns-in-Delete : goal.returns-in-Delete
unfolding plan_of
returns-in-Delete c = rw c.in-Delete.is c.deleted.ensures
