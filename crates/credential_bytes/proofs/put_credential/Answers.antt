-- `credential_bytes::put_credential` meets its contract: widths and numbers are the credential's layout.
use Rattle.lemmas.specs.Lists.{every}
use Rattle.lemmas.specs.BigEndian.{layout_size}
use Rattle.rules.specs.Frame.{credential_bytes}
use Rattle.credential_bytes.proofs.put_credential.Goals as goal

pub returns : goal.returns
unfolding credential_bytes every layout_size
returns c =
    cc c.write.ensures
