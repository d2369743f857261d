use Rattle.speculative_eval.proofs.machine.Machine.top_step.Goals as goal

pub known_step-requires : goal.known_step-requires
known_step-requires c = (c.args.self.now.demands.shared.book.texts, c.in-Some.ensures.texts)
