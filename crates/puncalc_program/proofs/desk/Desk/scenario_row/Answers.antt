use Rattle.std.proofs.Common.{◌≡◌, length, rules, SFits, ◌∙◌, ◌+ℤ◌, pos}
use Rattle.std.proofs.lemmas.Int.{to_z-of_z}
use Rattle.std.proofs.lemmas.Result.{IfOk-weaker}
use Rattle.std.specs.Int.{w128}
use Rattle.puncalc_program.specs.Script.{scenario_row}
use Rattle.puncalc_program.proofs.Tabled.{row_told}
use Rattle.puncalc_program.proofs.desk.Desk.scenario_row.Goals as goal

pub returns : goal.returns
returns c =
    let fits : SFits w128 c.number_behind.result = search rules in
    let number : c.number_behind.result ≡ c.args.low +ℤ pos c.args.k = simp (to_z-of_z, c.ranges.low) at c.number_behind.ensures in
    IfOk-weaker c.number_row.result _ (λ row. row.items ≡ scenario_row c.args.self.now.standing.book c.args.at c.args.low c.args.target c.args.k)
    (λ row e. e ∙ row_told c.args.self.now.standing.book c.args.at c.args.low c.args.target (length c.args.shown.now) c.args.k c.args.shown.now _ c.number_behind.result c.requires.shown c.requires.there number)
    (simp (to_z-of_z, fits) at c.number_row.ensures)
