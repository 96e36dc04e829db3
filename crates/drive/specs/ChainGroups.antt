-- Change 6 of document 02 over the code's own contract: what holds of a frame that is granted through a group, put to any record.
-- Proved in proofs/: `through_group`.
-- s: drive and medium. c: a call made.
use Rattle.std.specs.Prelude.{◌≡◌, ◌||◌, true}
use Rattle.rules.specs.Demands.{call_fields}
use Rattle.rules.specs.Frame.{is_group_credential, is_group_request}
use Rattle.rules.specs.GroupCredential.{Through}
use Rattle.drive.specs.View.{view}
use Rattle.drive.specs.Chain.{CallMade, CallMet, DriveState, Granted}

-- one granted call under a group credential, or with its request: both are a group's; the group has the credential's version and its
-- bytes on the medium are a list, which has the member; the member exists, and what is read or written lies in it and in the range
abbrev pub ThroughGroup : DriveState → CallMade → Type 0
ThroughGroup s c =
    Granted c
    → (is_group_credential (call_fields c.call).cred || is_group_request (call_fields c.call).req) ≡ true
    → Through (view s.drive) s.medium c.call

abbrev pub AllOfThroughGroup : Type 0
AllOfThroughGroup = (s : DriveState) (c : CallMade) → CallMet s c → ThroughGroup s c
