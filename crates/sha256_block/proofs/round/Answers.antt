-- The two sums T₁ and T₂ and the eight words, by what each call ensures; T₁ in the order of the code: T₁_is.
use Rattle.sha256_block.specs.Sha256.{round, Ch, Σ₁}
use Rattle.sha256_block.proofs.Words.{T₁_is}
use Rattle.sha256_block.proofs.round.Goals as goal

pub returns : goal.returns
unfolding round
returns c =
    let a = c.args in
    let s = a.s in
    rw (
      c.maj.ensures,
      c.big0.ensures,
      c.big1.ensures,
      c.ch.ensures,
      T₁_is s.h (Σ₁ s.e) (Ch s.e s.f s.g) a.k a.w,
    )
