use Rattle.rules.specs.Layout.{session_format, name_format, serial_format}
use Rattle.names.proofs.Tests.{tests}
use Rattle.sessions.proofs.session_sound.Goals as goal

pub returns-then-not-name_sound : goal.returns-then-not-name_sound
unfolding session_format name_format serial_format
returns-then-not-name_sound c = search tests depth 9

pub returns-then-not-copies_allowed : goal.returns-then-not-copies_allowed
unfolding session_format name_format serial_format
returns-then-not-copies_allowed c = search tests depth 9

pub returns-then-b-priority-gt2 : goal.returns-then-b-priority-gt2
unfolding session_format name_format serial_format
returns-then-b-priority-gt2 c = search tests depth 9

pub returns-then-b-medium-gt2 : goal.returns-then-b-medium-gt2
unfolding session_format name_format serial_format
returns-then-b-medium-gt2 c = search tests depth 9

pub returns-then-b-destination-gt1 : goal.returns-then-b-destination-gt1
unfolding session_format name_format serial_format
returns-then-b-destination-gt1 c = search tests depth 9

pub returns : goal.returns
unfolding session_format name_format serial_format
returns c = search tests depth 9
