-- What a space holds after 32 bytes were put at its start, if it has room for them.
use Rattle.std.specs.Prelude.{cond, List, ℕ, leb, length}
use Rattle.std.proofs.Math.Seq.{paste}

abbrev pub put : List ℕ → List ℕ → List ℕ
put out d = cond (leb 32 (length out)) (paste out 0 d 32) out
