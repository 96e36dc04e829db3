-- Document 01, operation 7: the bytes of the drive's keys, ks, after an operation under key j, the key in a slot
-- of partition p.
-- "New key = HMAC(key in the signing slot, request and seed)"; `signed` is request and seed.
use Rattle.std.specs.Prelude.{cond, List, ℕ, ◌*◌}
use Rattle.lemmas.specs.Lists.{part}
use Rattle.digest.specs.Hmac.{hmac}
use Rattle.rules.specs.declared.Operation.{Operation}
use Rattle.rules.specs.declared.Operation.TheVariants.{Read, Write, Look, Raise, Create, Delete, SetKey, LoadTable}
use Rattle.rules.specs.Frame.{key_size}
use Rattle.keyring.specs.Keys.{is_set, target_index, key_stored}

-- where the signing key was never set, all stays, as it does at every other operation
abbrev pub keys_after : Operation → ℕ → ℕ → ℕ → List ℕ → List ℕ → List ℕ
keys_after (Read a b) j slot p signed ks = ks
keys_after (Write a b) j slot p signed ks = ks
keys_after Look j slot p signed ks = ks
keys_after Raise j slot p signed ks = ks
keys_after (Create number size) j slot p signed ks = ks
keys_after Delete j slot p signed ks = ks
keys_after (SetKey target) j slot p signed ks =
    cond (is_set ks j) (key_stored (target_index slot p target) (hmac (part ks (key_size * j) key_size) signed) ks) ks
keys_after LoadTable j slot p signed ks = ks
