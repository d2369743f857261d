-- What writings append to a sink, where it is told.
use Rattle.std.proofs.Common.{◌≡◌, ℕ, ◌+◌, List, take, drop, Option, refl, ap, append_assoc, take-add}
use Rattle.std.specs.Prelude.{Some, None}
use Rattle.byte_streams.specs.Streams.{appended}

-- two writings, one after the other
pub appended-again : (before mid now : Option (List ℕ)) (bytes piece : List ℕ) (at n : ℕ) → mid ≡ appended before (take at bytes) → now ≡ appended mid (take n piece) → piece ≡ drop at bytes → now ≡ appended before (take (at + n) bytes)
appended-again None mid now bytes piece at n e f r = rw (f, e) refl
appended-again (Some before) mid now bytes piece at n e f r = rw (f, e, r) (ap Some (rw take-add (append_assoc before (take at bytes) (take n (drop at bytes)))))
