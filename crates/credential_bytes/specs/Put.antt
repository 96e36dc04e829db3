-- Document 01, "Credential, 36 bytes": written into a lent slice, whatever its length. s: the slice's bytes.
use Rattle.std.specs.Prelude.{cond, List, ℕ, leb, length}
use Rattle.lemmas.specs.Lists.{splice}
use Rattle.rules.specs.declared.Credential.{Credential}
use Rattle.rules.specs.Frame.{credential_size, credential_bytes}

-- s with a credential's 36 bytes at its start, where they fit; else s
abbrev pub credential_put : List ℕ → Credential → List ℕ
credential_put s c = cond (leb credential_size (length s)) (splice s 0 (credential_bytes c)) s
