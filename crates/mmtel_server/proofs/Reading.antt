-- How a web connection is read: what a read adds to the bytes that were read from it, and when it is read to the end of its request.
use Rattle.std.proofs.Common.{◌≡◌, ◌≢◌, ◌+◌, ◌<◌, ◌≤◌, ℕ, min, Bool, true, false, List, [], ◌∷◌, ◌++◌, length, take, drop, slice_get}
use Rattle.std.proofs.Common.{refl, sym, ap, ◌∙◌, subst, length-append, Option, Some, None, Result, Ok, Err, arith, inl, inr}
use Rattle.std.specs.Result.{IsErr}
use Rattle.std.proofs.Math.Seq.{take-add}
use Rattle.std.proofs.lemmas.List.{length-drop, length-take-le, take-append-le, take_all}
use Rattle.mmtel_http.specs.Requests.{ParsedRequestView, unfinished, bad, large, parsed, request_of, whole_of}
use Rattle.mmtel_http.specs.declared.wholes.Whole.TheVariants.{More}
use Rattle.mmtel_link.specs.LinkStates.{LinkInput, ReadIfExposed, ReadOf, current, last_or_none, more_of_last, next_arrival, unread, web_bytes}
use Rattle.mmtel_environment.specs.Counts.{Rose}
use Rattle.mmtel_environment.specs.declared.events.Event.{Event}
use Rattle.mmtel_base.specs.declared.memory.NoMemory.{NoMemory}
use Rattle.mmtel_types.specs.declared.numbers.Failed.{Failed}
use Rattle.mmtel_server.specs.DriveEffects.{IsNeeded, StaysOrRises, most_read}
use Rattle.mmtel_server.specs.Turns.{Grows, IsReading, ReadsMore, ReadsRequest, is_unfinished, read_to}

-- ---- the connection that came last

last_more : (reads : List ℕ) (count : ℕ) → last_or_none (reads ++ count ∷ []) ≡ count
last_more [] count = refl
last_more (n ∷ []) count = refl
last_more (n ∷ m ∷ reads) count = last_more (m ∷ reads) count

adds_more : (reads : List ℕ) (count n : ℕ) → more_of_last n (reads ++ count ∷ []) ≡ reads ++ (count + n) ∷ []
adds_more [] count n = refl
adds_more (k ∷ []) count n = refl
adds_more (k ∷ m ∷ reads) count n = ap (λ (l : List ℕ). k ∷ l) (adds_more (m ∷ reads) count n)

current_more : (events : List Event) (reads : List ℕ) (count : ℕ) → current events (reads ++ count ∷ []) ≡ slice_get events (length reads)
current_more events [] count = refl
current_more events (n ∷ reads) count =
    let long : length (reads ++ count ∷ []) ≡ length (n ∷ reads) = omega (arith, length-append reads (count ∷ [])) in
    ap (λ (i : ℕ). slice_get events i) long

-- what is still to be read from it
unread_is : (input : LinkInput) (count : ℕ) → unread (read_to input count false) ≡ drop count (web_bytes (next_arrival input))
unread_is input count =
    ap (λ (n : ℕ). drop n (web_bytes (current input.events (input.reads ++ count ∷ [])))) (last_more input.reads count)
    ∙ ap (λ (e : Option Event). drop count (web_bytes e)) (current_more input.events input.reads count)

-- ---- one read

module _ (input : LinkInput) (bytes room filled : List ℕ) where
  abbrev all : List ℕ
  all = web_bytes (next_arrival input)

  abbrev here : LinkInput
  here = read_to input (length bytes) false

  -- so many more of its bytes were read
  read_there : (later : Option LinkInput) (n : ℕ) → later ≡ Some (record here { reads = more_of_last n here.reads }) → later ≡ Some (read_to input (length bytes + n) false)
  read_there later n is = is ∙ ap (λ (reads : List ℕ). Some (record here { reads = reads })) (adds_more input.reads (length bytes) n)

  -- they come after those that were read before
  adds_on : (n : ℕ) → n ≤ length filled → take (length bytes) all ≡ bytes → take n filled ≡ take n (drop (length bytes) all) → take (length (bytes ++ take n filled)) all ≡ bytes ++ take n filled
  adds_on n less front next =
      let some : length (take n filled) ≡ n = length-take-le n filled less in
      let long : length (bytes ++ take n filled) ≡ length bytes + n = omega (arith, length-append bytes (take n filled), some) in
      ap (λ (k : ℕ). take k all) long
      ∙ (take-add (length bytes) n all
      ∙ (ap (λ (l : List ℕ). l ++ take n (drop (length bytes) all)) front
      ∙ ap (λ (l : List ℕ). bytes ++ l) (sym next)))

  -- a read that returns nothing is at its end
  nothing_left : 0 < length room → 0 ≡ min (length room) (length (drop (length bytes) all)) → take (length bytes) all ≡ all
  nothing_left some none = let l = length-drop (length bytes) all in take_all (length bytes) all (omega (arith, l, some, none))

  read_of : (later : Option LinkInput) (n : ℕ) → n ≤ length filled → take (length bytes) all ≡ bytes → ReadOf here later room filled (Ok n) → IsReading (Some input) later (bytes ++ take n filled)
  read_of later n less front told =
      let next : take n filled ≡ take n (drop (length bytes) all) = told.1 ∙ ap (λ (l : List ℕ). take n l) (unread_is input (length bytes)) in
      let some : length (take n filled) ≡ n = length-take-le n filled less in
      let long : length bytes + n ≡ length (bytes ++ take n filled) = omega (arith, length-append bytes (take n filled), some) in
      (read_there later n told.2 ∙ ap (λ (k : ℕ). Some (read_to input k false)) long, adds_on n less front next)

  end_of : (later : Option LinkInput) (giving gave : ℕ) → 0 < length room → gave ≡ giving → take (length bytes) all ≡ bytes → ReadOf here later room filled (Ok 0)
      → ReadsRequest (Some input) later giving gave (Ok bytes)
  end_of later giving gave some stands front told =
      let none : 0 ≡ min (length room) (length (drop (length bytes) all)) = told.0 ∙ ap (λ (l : List ℕ). min (length room) (length l)) (unread_is input (length bytes)) in
      let same : length bytes + 0 ≡ length bytes = omega arith in
      (false, read_there later 0 told.2 ∙ ap (λ (k : ℕ). Some (read_to input k false)) same, front, inl (inr (nothing_left some none), stands))

pub read_adds : (input now later : Option LinkInput) (bytes room filled : List ℕ) (n : ℕ) → n ≤ length filled → ReadIfExposed now later room filled (Ok n) → IsReading input now bytes →
    IsReading input later (bytes ++ take n filled)
read_adds None now later bytes room filled n less told is = let P : Option LinkInput → Type 0 = λ o. ReadIfExposed o later room filled (Ok n) in subst P is told
read_adds (Some input) now later bytes room filled n less told is =
    let P : Option LinkInput → Type 0 = λ o. ReadIfExposed o later room filled (Ok n) in
    read_of input bytes room filled later n less is.1 (subst P is.0 told)

pub read_ends : (input now later : Option LinkInput) (giving gave : ℕ) (bytes room filled : List ℕ) → 0 < length room → gave ≡ giving → ReadIfExposed now later room filled (Ok 0) → IsReading input now bytes
    → ReadsRequest input later giving gave (Ok bytes)
read_ends None now later giving gave bytes room filled some stands told is = let P : Option LinkInput → Type 0 = λ o. ReadIfExposed o later room filled (Ok 0) in subst P is told
read_ends (Some input) now later giving gave bytes room filled some stands told is =
    let P : Option LinkInput → Type 0 = λ o. ReadIfExposed o later room filled (Ok 0) in
    end_of input bytes room filled later giving gave some stands is.1 (subst P is.0 told)

-- memory ran out after a read
pub read_lost : (input now later : Option LinkInput) (giving gave : ℕ) (bytes more room filled : List ℕ) (n : ℕ) (r : Result Bool NoMemory) → IsErr r → ReadIfExposed now later room filled (Ok n)
    → IsReading input now bytes → ReadsMore input later giving gave more r
read_lost input now later giving gave bytes more room filled n (Ok b) e told is = absurd cc
read_lost None now later giving gave bytes more room filled n (Err x) e told is = let P : Option LinkInput → Type 0 = λ o. ReadIfExposed o later room filled (Ok n) in subst P is told
read_lost (Some input) now later giving gave bytes more room filled n (Err x) e told is =
    let P : Option LinkInput → Type 0 = λ o. ReadIfExposed o later room filled (Ok n) in
    let there : ReadOf (here input bytes room filled) later room filled (Ok n) = subst P is.0 told in
    (false, length bytes + n, read_there input bytes room filled later n there.2)

pub read_failed : (input now later : Option LinkInput) (giving gave : ℕ) (bytes room filled : List ℕ) (e : Failed) → Rose giving gave → ReadIfExposed now later room filled (Err e) → IsReading input now bytes
    → ReadsRequest input later giving gave (Ok bytes)
read_failed None now later giving gave bytes room filled e rose told is = let P : Option LinkInput → Type 0 = λ o. ReadIfExposed o later room filled (Err e) in subst P is told
read_failed (Some input) now later giving gave bytes room filled e rose told is =
    let P : Option LinkInput → Type 0 = λ o. ReadIfExposed o later room filled (Err e) in
    (true, subst P is.0 told, is.1, inr rose)

-- ---- all reads

finished_whole : (r : ParsedRequestView) → false ≡ is_unfinished r → whole_of r ≢ More
finished_whole unfinished e = absurd cc
finished_whole bad e = λ is. cc
finished_whole large e = λ is. cc
finished_whole (parsed a) e = λ is. cc

pub is_more : (r : ParsedRequestView) → true ≡ is_unfinished r → r ≡ unfinished
is_more unfinished e = refl
is_more bad e = absurd cc
is_more large e = absurd cc
is_more (parsed a) e = absurd cc

-- what was read is a request, or cannot become one
pub read_whole : (input now : Option LinkInput) (giving gave : ℕ) (bytes : List ℕ) → false ≡ is_unfinished (request_of bytes) → gave ≡ giving → IsReading input now bytes → ReadsRequest input now giving gave (Ok bytes)
read_whole None now giving gave bytes whole stands is = is
read_whole (Some input) now giving gave bytes whole stands is =
    let P : List ℕ → Type 0 = λ s. whole_of (request_of s) ≢ More in
    (false, is.0, is.1, inl (inl (subst P (sym is.1) (finished_whole (request_of bytes) whole)), stands))

-- ---- what is needed

more_of : (r : ParsedRequestView) → is_unfinished r ≡ true → whole_of r ≡ More
more_of unfinished e = refl
more_of bad e = absurd cc
more_of large e = absurd cc
more_of (parsed a) e = absurd cc

-- one more read was needed after bytes that are no complete request
pub read_needed : (bytes more : List ℕ) → is_unfinished (request_of bytes) ≡ true → Grows bytes more true → IsNeeded (length more) more
read_needed bytes more unfinished_yet grows =
    let same : whole_of (request_of (take (length bytes) more)) ≡ More = ap (λ (l : List ℕ). whole_of (request_of l)) grows.2 ∙ more_of (request_of bytes) unfinished_yet in
    inr (length bytes, grows.0, grows.1, same)

-- nor do bytes change where none came
pub still_needed : (bytes more : List ℕ) → Grows bytes more false → IsNeeded (length bytes) bytes → IsNeeded (length more) more
still_needed bytes more same needed = subst (λ (l : List ℕ). IsNeeded (length l) l) (sym same) needed

-- what a read adds
pub grown : (bytes filled : List ℕ) (n : ℕ) → 0 < n → n ≤ length filled → length filled ≤ most_read → Grows bytes (bytes ++ take n filled) true
grown bytes filled n some less most =
    let long : length (take n filled) ≡ n = length-take-le n filled less in
    let whole : length (bytes ++ take n filled) ≡ length bytes + n = omega (arith, length-append bytes (take n filled), long) in
    (omega (arith, whole, some), omega (arith, whole, less, most), take-append-le (length bytes) bytes (take n filled) (omega arith) ∙ take_all (length bytes) bytes (omega arith))

-- ---- counts

pub no_rise : (n : ℕ) → StaysOrRises n n
no_rise n = inl refl
