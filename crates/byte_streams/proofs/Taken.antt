-- What readings take from a source, where it is told.
use Rattle.std.proofs.Common.{◌≡◌, ℕ, ◌+◌, ◌≤◌, List, ◌++◌, length, take, drop, Option, refl, sym, ◌∙◌, ap, append_assoc, arith, IfSome, subst, drop-drop, take-append-drop, ◌-◌}
use Rattle.std.proofs.lemmas.List.{drop-take}
use Rattle.std.specs.Prelude.{Some, None, Result, Ok, Err, MatchResult, IsErrAnd}
use Rattle.std.specs.Option.{option_map}
use Rattle.std.proofs.lemmas.Grind.{common_steps}
use Rattle.byte_streams.specs.Streams.{MovesFirst, without_first, LosesAtMost, LeavesAfter}
use Rattle.byte_streams.specs.declared.faults.ReadFault.{ReadFault}
use Rattle.byte_streams.specs.declared.faults.ReadFault.TheVariants.{OutOfMemory}

-- what was told is what the read put into the buffer, and then what it left
pub read-taken : (before now : Option (List ℕ)) (n : ℕ) (buffer filled : List ℕ) → IfSome before (λ told. MovesFirst n told buffer filled) → now ≡ without_first n before → before ≡ option_map (λ rest. take n filled ++ rest) now
read-taken None now n buffer filled h e = rw e refl
read-taken (Some told) now n buffer filled h e =
    rw (e, h.moved) (let w : n ≤ length told = h.within in grind (arith, common_steps))

-- two takings, one after the other
pub taken-again : (before mid now : Option (List ℕ)) (got more : List ℕ) → before ≡ option_map (λ rest. got ++ rest) mid → mid ≡ option_map (λ rest. more ++ rest) now → before ≡ option_map (λ rest. (got ++ more) ++ rest) now
taken-again before mid None got more e f = rw (e, f) refl
taken-again before mid (Some now) got more e f = rw (e, f) (ap Some (sym (append_assoc got more now)))

-- what is left of what was told, once n bytes are taken
pub taken-without_first : (before now : Option (List ℕ)) (got : List ℕ) (n : ℕ) → before ≡ option_map (λ rest. got ++ rest) now → length got ≡ n → now ≡ without_first n before
taken-without_first before None got n e f = rw e refl
taken-without_first before (Some now) got n e f = rw (e, ← f) (grind (arith, common_steps))

-- what want of memory leaves, at a result that is this fault
pub out_of_memory-leaves : {X : Type 0} (answer : Result X ReadFault) (limit : ℕ) (before now : Option (List ℕ)) → IsErrAnd answer (λ fault. fault ≡ OutOfMemory) → LosesAtMost limit before now → MatchResult answer (λ _. Unit {0}) (λ fault. LeavesAfter fault limit before now)
out_of_memory-leaves (Ok x) limit before now is loses = tt
out_of_memory-leaves (Err fault) limit before now is loses = rw is loses

-- the bytes from the n-th on, up to the (n + m)-th and then the others
pub drop-in-two : (buffer : List ℕ) (n m : ℕ) → drop n (take (n + m) buffer) ++ drop (n + m) buffer ≡ drop n buffer
drop-in-two buffer n m = rw (drop-take n m buffer, ← drop-drop m n buffer, take-append-drop m (drop n buffer)) refl

-- a buffer of which the first `room` bytes were lent, and the first n of these read into
pub front-moved : (front buffer : List ℕ) (n room : ℕ) → n ≤ room → (front ++ drop n (take room buffer)) ++ drop room buffer ≡ front ++ drop n buffer
front-moved front buffer n room h =
    let e : n + (room - n) ≡ room = omega arith in
    let two : drop n (take room buffer) ++ drop room buffer ≡ drop n buffer =
    subst (λ k. drop n (take k buffer) ++ drop k buffer ≡ drop n buffer) e (drop-in-two buffer n (room - n)) in
    append_assoc front (drop n (take room buffer)) (drop room buffer) ∙ ap (λ rest. front ++ rest) two
