use Rattle.sheet_csv.proofs.SheetFacts.{kept_none}
use Rattle.sheet_loading.proofs.Trees.{plain_reads}
use Rattle.sheet_loading.proofs.fields.check_formula.Goals as goal

pub returns-in_default : goal.returns-in_default
returns-in_default c = record {
  ok = plain_reads c.args.names.now c.args.texts.now c.args.at c.args.raw.now c.in_default.not-Formula;
  fault = tt;
  place = tt;
  kept = kept_none c.args.texts.now;
}
