-- What is seen of a source over a reader and of a sink over a writer.
use Rattle.std.specs.Prelude.{ℕ, List, Option}

-- the bytes that the reader knows that it has left, and the count of faults
pub record ReaderLeft : Type 0 where
  pub remaining : Option (List ℕ)
  pub faults : ℕ

-- the bytes that the writer knows that it holds, and the count of faults
pub record WriterHeld : Type 0 where
  pub contents : Option (List ℕ)
  pub faults : ℕ
