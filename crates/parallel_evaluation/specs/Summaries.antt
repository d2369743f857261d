-- What the summary of a round tells.
use Rattle.std.specs.Prelude.{◌≡◌, ℕ, List, [], ◌∷◌, map, length, sum, None, IsSomeAnd}
use Rattle.cell_values.specs.declared.address.Addr.{Addr}
use Rattle.cell_words.specs.declared.cell_word.CellWord.{CellWord}
use Rattle.demand_spec.specs.Book.{Book}
use Rattle.claim_core.specs.Rule.{Each, total, is_done, claimer_is, publisher_is}
use Rattle.claim_core.specs.Table.{count_from}
use Rattle.claim_core.specs.Passes.{OutcomeSeen}
use Rattle.parallel_evaluation.specs.declared.summary.Summary.{Summary}

-- for each of n workers, how many words name it
abbrev pub counts : (ℕ → CellWord → ℕ) → ℕ → List CellWord → List ℕ
counts names n words = map (λ w. total (names w) words) (count_from n 0)

-- the closed round was over this book, these cells and so many workers, and each of its words is done
pub record IsRoundOver (b : Book) (cells : List Addr) (workers : ℕ) (o : OutcomeSeen) : Type 0 where
  pub over : o.setup ≡ record { book = b; cells = cells; workers = workers }
  pub done : Each o.words (λ w. is_done w ≡ 1)

-- the numbers are those of the round's words by claimer and by publisher, and each makes up the pending cells
pub record CountsRound (workers : ℕ) (words : List CellWord) (s : Summary) : Type 0 where
  pub claimed : s.claimed ≡ counts claimer_is workers words
  pub published : s.published ≡ counts publisher_is workers words
  pub all_claimed : sum s.claimed ≡ s.pending
  pub all_published : sum s.published ≡ s.pending

-- what the evaluation of these cells by so many workers tells: where there are none, there was no round
abbrev pub IsSummaryOf : Book → List Addr → ℕ → Summary → Type 0
IsSummaryOf b [] workers s = (s.pending ≡ 0) × (s.claimed ≡ []) × (s.published ≡ []) × (s.outcome ≡ None)
IsSummaryOf b (c ∷ cells) workers s =
    (s.pending ≡ length (c ∷ cells))
    × IsSomeAnd s.outcome (λ o. IsRoundOver b (c ∷ cells) workers o × CountsRound workers o.words s)
