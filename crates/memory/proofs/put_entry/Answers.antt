-- Stores one behind the other are one splice (sets-eq).
use Rattle.std.proofs.Common.{◌≡◌, suc, ◌+◌, ◌*◌, take, drop, refl, ◌∙◌, append_assoc, arith}
use lib.Seq.{sets-eq}
use Rattle.lemmas.specs.Lists.{splice}
use Rattle.memory.specs.Memory.{entry_size, numbers_of}
use Rattle.memory.proofs.put_entry.Goals as goal

pub returns : goal.returns
unfolding splice
returns c =
    let es = c.args.entries.now in
    let at = entry_size * c.args.i in
    let numbers = numbers_of c.args.e in
    let second : at + 1 ≡ suc at = omega arith in
    let third : at + 2 ≡ suc (suc at) = omega arith in
    let fourth : at + 3 ≡ suc (suc (suc at)) = omega arith in
    (rw (second, third, fourth) (sets-eq numbers es at c.requires.0 ∙ append_assoc (take at es) numbers (drop (at + entry_size) es)), refl)
