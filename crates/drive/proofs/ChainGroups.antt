-- Change 6 of document 02 over the code's own contract: by the rules' own theorem on the same call.
use mathlib.Core.Path.{◌∙◌, sym}
use Rattle.rules.proofs.GroupCredential as rules_proofs
use Rattle.drive.specs.View.{view}
use Rattle.drive.specs.ChainGroups.{AllOfThroughGroup}

pub through_group : AllOfThroughGroup
through_group s c m g h = rules_proofs.through_group (view s.drive) s.medium c.call (sym m.row ∙ g) h
