-- The promises of both calls: each an equation with document 01's own definition of the call.
use Rattle.std.specs.Prelude.{◌≡◌, List, ℕ}
use Rattle.rules.specs.declared.Credential.{Credential}
use Rattle.rules.specs.Client as rules
use Rattle.client.specs.Answers.{Built, Issued}

-- the issuer, of the credential c, the slot's key k and the space s: row, credential key and space, refusals too
pub record IssueMet (c : Credential) (k s : List ℕ) (r : Issued) (after : List ℕ) : Type 0 where
  pub row : r.row ≡ (rules.issue c k s).row
  pub key : r.key ≡ (rules.issue c k s).key
  pub space : after ≡ (rules.issue c k s).space

-- the builder, of credential, request, data, the credential key k and the space s: row, length and space
pub record BuildMet (credential request payload k s : List ℕ) (r : Built) (after : List ℕ) : Type 0 where
  pub row : r.row ≡ (rules.build credential request payload k s).row
  pub length : r.length ≡ (rules.build credential request payload k s).length
  pub space : after ≡ (rules.build credential request payload k s).space
