-- Everything as its function gave it.
use Rattle.std.specs.Prelude.{refl}
use Rattle.state.specs.Table.{partition_in}
use Rattle.drive.specs.Admission.{grant_context}
use Rattle.drive.proofs.Admitting.{or_given}
use Rattle.drive.proofs.admission.grant_context.Goals as goal

pub returns : goal.returns
unfolding grant_context partition_in
returns c = rw (
  c.next_version.ensures,
  c.present_version.ensures,
  c.look_size.ensures,
  c.unwrap_or.ensures,
  or_given c.args.place 0,
  c.object_or_none-o.ensures,
  c.target_of-number.ensures,
  c.from.ensures,
) refl
