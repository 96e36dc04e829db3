-- Laws of `bad_records`, for the client end: a record that is not all there is bad, so either may be read as zeros then.
-- a, b: the bytes of a credential and of a request. c, d: numbers of a credential. q, r: of a request.
use Rattle.std.specs.Prelude.{◌≡◌, Bool, cond, false, not, true, List, [], ◌∷◌, ℕ, ◌+◌, leb, get_or, length}
use Rattle.std.proofs.Math.Path.{refl}
use Rattle.std.proofs.Common.{sym, ap, ◌∙◌, true≢false, arith, eqb-true, le-leb, leb-false, ne_eqb}
use Rattle.std.proofs.lemmas.Bool.{not-false}
use Rattle.lemmas.specs.Tests.{◌is◌, ◌isnt◌, any, none_of, or_intro_r}
use Rattle.rules.specs.declared.Credential.{Credential}
use Rattle.rules.specs.declared.Request.{Request}
use Rattle.rules.specs.Client.{bad_records, record_faults}
use Rattle.rules.specs.Frame.{
  credential_at,
  credential_length,
  credential_magic,
  credential_of,
  request_at,
  request_length,
  request_of,
}
use Rattle.rules.specs.Needs.{default_need}
use Rattle.rules.specs.Rows.{low_level, row3, row4, row6, wrong_data}
use Rattle.fields.specs.Records.{credential_in, request_in}

-- one test that passes is enough
some_of : (ts : List Bool) (k : ℕ) → get_or ts k false ≡ true → any ts ≡ true
some_of ts k e = go (any ts) refl
  where
    go : (t : Bool) → any ts ≡ t → t ≡ true
    go true h = refl
    go false h = absurd (true≢false (sym e ∙ none_of ts h k))

module _ (a b : List ℕ) where
  -- what refuses them, the numbers being taken to be these
  abbrev pub faults_as : Credential → Request → List Bool
  faults_as c r =
      (length a isnt credential_length c)
      ∷ (length b isnt request_length r)
      ∷ row3 c r
      ∷ row4 c r
      ∷ wrong_data r
      ∷ row6 c r
      ∷ low_level (default_need r.operation) c r
      ∷ []

  -- what is not all there has another length than its mark's
  short : (n : ℕ) (l : List ℕ) → leb (0 + n) (length l) ≡ false → (length l isnt n) ≡ true
  short n l e = ap not (ne_eqb (length l) n (λ h. omega (arith, leb-false (0 + n) (length l) e)))

  -- and zeros have no mark
  no_credential_lem : (r : Request) → any (faults_as (credential_of []) r) ≡ true
  no_credential_lem r = some_of (faults_as (credential_of []) r) 2 refl

  no_request_lem : (c : Credential) → any (faults_as c (request_of [])) ≡ true
  no_request_lem c = some_of (faults_as c (request_of [])) 2 (or_intro_r (c.magic isnt credential_magic) true refl)

  -- so they are judged by what is read of them
  pub bad_as_read : any (faults_as (credential_in a 0) (request_in b 0)) ≡ bad_records a b
  unfolding bad_records
  bad_as_read = go (leb (0 + credential_length c) (length a)) (leb (0 + request_length r) (length b)) refl refl
    where
      c : Credential
      c = credential_at a 0

      r : Request
      r = request_at b 0

      go : (i j : Bool) → leb (0 + credential_length c) (length a) ≡ i → leb (0 + request_length r) (length b) ≡ j
          → any (faults_as (cond i c (credential_of [])) (cond j r (request_of []))) ≡ any (record_faults a b)
      go true true e f = refl
      go false j e f =
          no_credential_lem (cond j r (request_of [])) ∙ sym (some_of (record_faults a b) 0 (short (credential_length c) a e))
      go true false e f = no_request_lem c ∙ sym (some_of (record_faults a b) 1 (short (request_length r) b f))

  -- where neither is bad, both are all there
  whole : (n : ℕ) (l : List ℕ) → (length l isnt n) ≡ false → leb (0 + n) (length l) ≡ true
  whole n l e = le-leb (0 + n) (length l) (omega (arith, eqb-true (length l) n (not-false (length l is n) e)))

  pub credential_is_read : bad_records a b ≡ false → credential_in a 0 ≡ credential_at a 0
  unfolding bad_records
  credential_is_read good = rw (whole (credential_length (credential_at a 0)) a (none_of (record_faults a b) good 0)) refl

  pub request_is_read : bad_records a b ≡ false → request_in b 0 ≡ request_at b 0
  unfolding bad_records
  request_is_read good = rw (whole (request_length (request_at b 0)) b (none_of (record_faults a b) good 1)) refl

  -- so what looks at their numbers only where neither is bad may read them either way
  pub read_either : {A : Type 0} (f : Bool → Credential → Request → A)
      → ((c d : Credential) (q r : Request) → f true c q ≡ f true d r)
      → f (bad_records a b) (credential_in a 0) (request_in b 0) ≡ f (bad_records a b) (credential_at a 0) (request_at b 0)
  read_either {A} f h = go (bad_records a b) refl
    where
      go : (t : Bool) → bad_records a b ≡ t → f t (credential_in a 0) (request_in b 0) ≡ f t (credential_at a 0) (request_at b 0)
      go true e = h (credential_in a 0) (credential_at a 0) (request_in b 0) (request_at b 0)
      go false e = rw (credential_is_read e, request_is_read e) refl
