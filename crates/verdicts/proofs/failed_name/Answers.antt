use mathlib.Core.Path.{sym, ap, subst, ◌∙◌}
use Rattle.rules.specs.Checks.{failed_name}
use Rattle.verdicts.specs.Ready.{UidsIn}
use Rattle.verdicts.proofs.failed_name.Goals as goal

pub sent_name-requires : goal.sent_name-requires
sent_name-requires c = (subst (UidsIn c.args.c.now) c.in-Create.is c.requires).1

pub name_at-requires : goal.name_at-requires
name_at-requires c = (subst (UidsIn c.args.c.now) c.in-Set.is c.requires).1

pub name_at-requires-in-Act : goal.name_at-requires-in-Act
name_at-requires-in-Act c = (subst (UidsIn c.args.c.now) c.in-Act.is c.requires).1

pub name_at-requires-in-Delete : goal.name_at-requires-in-Delete
name_at-requires-in-Delete c = (subst (UidsIn c.args.c.now) c.in-Delete.is c.requires).1

pub returns-in-Echo : goal.returns-in-Echo
returns-in-Echo c = c.no_name.ensures ∙ sym (ap (failed_name c.args.c.now) c.in-Echo.is)

pub returns-in-Create : goal.returns-in-Create
returns-in-Create c = c.sent_name.ensures ∙ sym (ap (failed_name c.args.c.now) c.in-Create.is)

pub returns-in-Set : goal.returns-in-Set
returns-in-Set c = c.name_at.ensures ∙ sym (ap (failed_name c.args.c.now) c.in-Set.is)

pub returns-in-Act : goal.returns-in-Act
returns-in-Act c = c.name_at-in-Act.ensures ∙ sym (ap (failed_name c.args.c.now) c.in-Act.is)

pub returns-in-Delete : goal.returns-in-Delete
returns-in-Delete c = c.name_at-in-Delete.ensures ∙ sym (ap (failed_name c.args.c.now) c.in-Delete.is)
