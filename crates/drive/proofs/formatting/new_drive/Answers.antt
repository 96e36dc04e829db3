-- Nothing in it but the keys: every part as its function gave it.
use mathlib.Core.List.{zip_with}
use Rattle.lemmas.specs.Chunks.{chunks}
use Rattle.state.specs.Padded.{padded}
use Rattle.drive.specs.View.{view, memories_in}
use Rattle.drive.proofs.formatting.new_drive.Goals as goal

pub returns : goal.returns
unfolding view memories_in padded zip_with chunks
returns c = rw c.empty_tables-tables.ensures
