-- `folding_code::fold::is_zero` meets its contract: the search for another number. Assumes nothing.
use Rattle.wht.proofs.Lists.{passes-by}
use Rattle.folding_code.proofs.fold.is_zero.Goals as goal

pub returns : goal.returns
returns c = passes-by _ 16 c.find_bad.result c.find_bad.ensures c.is_none.ensures
