-- `sheet::checks::greatest` meets its contract. Assumes nothing.
use Rattle.std.proofs.Common.{◌∙◌, sym}
use Rattle.std.proofs.lemmas.Iterator.{YieldsList-from_slice}
use Rattle.std.proofs.lemmas.Iterator.Adapters.{option_map_id}
use Rattle.std.proofs.lemmas.Iterator.Consumers.{YieldsList-from_copied, max_from_yields_List}
use Rattle.sheet.proofs.CheckLaws.{greatest_reduced}
use Rattle.sheet.proofs.checks.greatest.Goals as goal

pub returns : goal.returns
returns c =
    let most = max_from_yields_List c.copied.result c.max.result c.max.ensures.ran (YieldsList-from_copied (YieldsList-from_slice c.args.row.now cc)) in
    greatest_reduced c.args.row.now (sym (option_map_id c.max.result) ∙ most) c.unwrap_or.ensures
