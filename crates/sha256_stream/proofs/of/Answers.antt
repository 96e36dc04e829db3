-- The digest of a message taken in one part, by the laws of Absorbed.
use Rattle.std.proofs.Common.{[], ap, ◌∙◌}
use Rattle.sha256_stream.specs.Stream.{started, absorbed, finished}
use Rattle.sha256_stream.proofs.AbsorbedLaws.{absorbed_none, absorbed_more, finished-absorbed}
use Rattle.sha256_stream.proofs.of.Goals as goal

pub returns : goal.returns
returns c =
    let m = c.args.m.now in
    c.finish.ensures ∙ ap finished (c.absorb.ensures ∙ ap (λ h. absorbed h m) c.start.ensures)
    ∙ finished-absorbed (absorbed started m) m (absorbed_more started [] absorbed_none m)
