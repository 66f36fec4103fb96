use Rattle.fm_store.proofs.HeadLaws.{torn_magic}
use Rattle.fm_store.proofs.recovery.is_torn_magic.Goals as goal

pub returns : goal.returns
returns c =
    let zeros = c.without_zeros.ensures.zeros in
    torn_magic c.args.bytes.now c.without_zeros.result.now zeros.0 c.starts_with.result zeros.1 zeros.2 c.without_zeros.ensures.last c.starts_with.ensures.value
