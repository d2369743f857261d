use Rattle.std.proofs.Common.{sym, subst, rules, SFits}
use Rattle.std.specs.Int.{w128}
use Rattle.std.proofs.lemmas.Int.{to_z-of_z}
use Rattle.formula_eval.specs.Machine.{GoesOn}
use Rattle.formula_eval.proofs.site.Site.call_on.Goals as goal

pub returns-in-Third-clause-goes : goal.returns-in-Third-clause-goes
returns-in-Third-clause-goes c =
    let fits : SFits w128 c.in-Third.start = search rules in
    subst (λ w. GoesOn c.args.self.now.pool.now c.args.self.now.texts.now c.args.self.now.at c.args.call.id w c.args.v c.args.frames.now.frames c.third_on.result c.args.frames.now.frames) (sym c.in-Third.is) (simp (to_z-of_z, fits) at (c.third_on.ensures c.args.frames.now.frames))
