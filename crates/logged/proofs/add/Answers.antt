-- As many bytes as there is room for are put behind the log.
use Rattle.std.proofs.Common.{◌≡◌, ◌-◌, length, min, arith}
use Rattle.logged.specs.Log.{added_by}
use Rattle.logged.proofs.add.Goals as goal

pub returns : goal.returns
returns c =
    let a = c.args in
    let e : c.min-end.result ≡ min a.at.now (length a.log.now) = omega arith in
    let n : c.min-n.result ≡ min (length a.bytes.now) (length a.log.now - c.min-end.result) = omega arith in
    added_by a.log.now a.at.now a.bytes.now c.min-end.result c.min-n.result c.copy_to.new.space e n c.copy_to.ensures
