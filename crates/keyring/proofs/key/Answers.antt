-- A key that is set is its 32 bytes.
use Rattle.std.proofs.Common.{◌≡◌, ◌+◌, ◌-◌, ◌*◌, true, sym, ◌∙◌, arith}
use Rattle.lemmas.specs.Lists.{part}
use Rattle.rules.specs.Frame.{key_size}
use Rattle.keyring.specs.Keys.{is_set}
use Rattle.keyring.proofs.key.Goals as goal

pub returns : goal.returns
unfolding part
returns c =
    let a = c.args in
    let there : is_set a.keys.now a.j ≡ true = sym c.is_set.ensures ∙ c.if-not-is_set.false in
    let all : key_size * a.j + key_size - key_size * a.j ≡ key_size = omega arith in
    rw (there, all)
