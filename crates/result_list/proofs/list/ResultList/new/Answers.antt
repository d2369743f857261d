use Rattle.std.proofs.Common.{◌≡◌, rules, replicate}
use Rattle.result_list.specs.declared.list.Kept.{Kept}
use Rattle.result_list.proofs.Listed.{unknown_is}
use Rattle.result_list.proofs.list.ResultList.new.Goals as goal

pub returns : goal.returns
returns c =
    let all : c.in_ok-kept.kept.items ≡ replicate c.args.count Kept.Unknown = search rules in
    unknown_is _ c.in_ok-kept.kept.items c.args.count all
