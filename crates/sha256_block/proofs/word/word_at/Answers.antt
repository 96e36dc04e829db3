-- Four bytes as a number: word_at.
use Rattle.std.proofs.Common.{◌∙◌}
use Rattle.sha256_block.proofs.Compression.{word_at}
use Rattle.sha256_block.proofs.word.word_at.Goals as goal

pub returns : goal.returns
returns c =
    let a = c.args in
    c.from_be_bytes.ensures ∙ word_at a.s.now a.at
