-- The machine and the messages, each under one name: a claim that is computed says `unfolding the_machine the_messages`.
-- Assumes nothing.
use Rattle.octets.specs.Octets.{big_number_at}
use Rattle.strike.specs.Machine.{header_wrong, fragment_in, skips, reads, gathers, overflows, stores, collect, laid_by, answered, carried_out, fed, checked, step, laid_if, message_after}
use Rattle.strike.specs.Messages.{may_begin, unfinished, role_of_fragment, count_after, message_of, cut_by, struck, without, strikeable, says, is_of, fate_of, role_if, role_of, event_of, history_from, history, answers, after}

unfoldable pub the_machine : Unit {0}
unfolding big_number_at header_wrong fragment_in skips reads gathers overflows stores collect laid_by answered carried_out fed checked step laid_if message_after
the_machine = tt

unfoldable pub the_messages : Unit {0}
unfolding may_begin unfinished role_of_fragment count_after message_of cut_by struck without strikeable says is_of fate_of role_if role_of event_of history_from history answers after
the_messages = tt
