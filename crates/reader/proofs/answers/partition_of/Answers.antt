-- The partition is the credential's second number, of one byte behind the mark's two.
use Rattle.std.proofs.Common.{◌≡◌, ◌∙◌, get_or, rules}
use Rattle.lemmas.specs.BigEndian.{number_at, read_all}
use Rattle.rules.specs.Frame.{credential_at, fields}
use Rattle.reader.proofs.answers.partition_of.Goals as goal

pub returns : goal.returns
unfolding fields credential_at read_all number_at
returns c =
    let e : c.unwrap_or.result ≡ get_or c.args.frame.now 2 0 = search rules in
    e ∙ (search rules)
