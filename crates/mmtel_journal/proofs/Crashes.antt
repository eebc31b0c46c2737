-- What a stop may leave, after one more call on a disk in memory.
use Rattle.std.proofs.Common.{◌≡◌, inl, inr, ℕ, ◌+◌, ◌<◌, List, [], ◌∷◌, ◌++◌, length, get_or, take, refl, sym, ◌∙◌, ap, subst, arith, length-append, Vec}
use Rattle.std.specs.declared.alloc.Global.{Global}
use Rattle.std.proofs.lemmas.List.{take_all, take-append-le, take_more}
use Rattle.std.proofs.lemmas.Bool.{cases_lt}
use Rattle.mmtel_journal.specs.Disks.{Torn, Follows, Elapses, Only}
use Rattle.mmtel_journal.specs.Memory.{with_write, bytes_after_ops, AfterWrite, crash_images_after, crash_image_of, CrashImageSince}
use Rattle.mmtel_journal.specs.Images.{torn_same}
use Rattle.mmtel_journal.specs.declared.memory.DiskOp.{DiskOp}
use Rattle.mmtel_journal.specs.declared.memory.DiskOp.TheVariants.{Wrote, Tore, Synced, Unchanged}

after_write : (calls : List DiskOp) (bytes : List ℕ) (P : List ℕ → Type 0) (at : ℕ) (new : Vec ℕ Global) (c : List ℕ) → crash_images_after bytes P (calls ++ Wrote at new ∷ []) c
    → (d : List ℕ) × crash_images_after bytes P calls d × Torn at (length new.items) d c
after_write [] bytes P at new c left = left
after_write (Wrote a b ∷ calls) bytes P at new c left = after_write calls (with_write bytes a b.items) (AfterWrite a b.items P) at new c left
after_write (Tore a b ∷ calls) bytes P at new c left = after_write calls bytes (AfterWrite a b.items P) at new c left
after_write (Synced ∷ calls) bytes P at new c left = after_write calls bytes (λ d. d ≡ bytes) at new c left
after_write (Unchanged ∷ calls) bytes P at new c left = after_write calls bytes P at new c left

after_tore : (calls : List DiskOp) (bytes : List ℕ) (P : List ℕ → Type 0) (at : ℕ) (new : Vec ℕ Global) (c : List ℕ) → crash_images_after bytes P (calls ++ Tore at new ∷ []) c
    → (d : List ℕ) × crash_images_after bytes P calls d × Torn at (length new.items) d c
after_tore [] bytes P at new c left = left
after_tore (Wrote a b ∷ calls) bytes P at new c left = after_tore calls (with_write bytes a b.items) (AfterWrite a b.items P) at new c left
after_tore (Tore a b ∷ calls) bytes P at new c left = after_tore calls bytes (AfterWrite a b.items P) at new c left
after_tore (Synced ∷ calls) bytes P at new c left = after_tore calls bytes (λ d. d ≡ bytes) at new c left
after_tore (Unchanged ∷ calls) bytes P at new c left = after_tore calls bytes P at new c left

after_sync : (calls : List DiskOp) (bytes : List ℕ) (P : List ℕ → Type 0) (c : List ℕ) → crash_images_after bytes P (calls ++ Synced ∷ []) c → c ≡ bytes_after_ops bytes calls
after_sync [] bytes P c left = left
after_sync (Wrote a b ∷ calls) bytes P c left = after_sync calls (with_write bytes a b.items) (AfterWrite a b.items P) c left
after_sync (Tore a b ∷ calls) bytes P c left = after_sync calls bytes (AfterWrite a b.items P) c left
after_sync (Synced ∷ calls) bytes P c left = after_sync calls bytes (λ d. d ≡ bytes) c left
after_sync (Unchanged ∷ calls) bytes P c left = after_sync calls bytes P c left

after_missed : (calls : List DiskOp) (bytes : List ℕ) (P : List ℕ → Type 0) (c : List ℕ) → crash_images_after bytes P (calls ++ Unchanged ∷ []) c → crash_images_after bytes P calls c
after_missed [] bytes P c left = left
after_missed (Wrote a b ∷ calls) bytes P c left = after_missed calls (with_write bytes a b.items) (AfterWrite a b.items P) c left
after_missed (Tore a b ∷ calls) bytes P c left = after_missed calls bytes (AfterWrite a b.items P) c left
after_missed (Synced ∷ calls) bytes P c left = after_missed calls bytes (λ d. d ≡ bytes) c left
after_missed (Unchanged ∷ calls) bytes P c left = after_missed calls bytes P c left

pub bytes_after_write : (calls : List DiskOp) (bytes : List ℕ) (at : ℕ) (new : Vec ℕ Global)
    → bytes_after_ops bytes (calls ++ Wrote at new ∷ []) ≡ with_write (bytes_after_ops bytes calls) at new.items
bytes_after_write [] bytes at new = refl
bytes_after_write (Wrote a b ∷ calls) bytes at new = bytes_after_write calls (with_write bytes a b.items) at new
bytes_after_write (Tore a b ∷ calls) bytes at new = bytes_after_write calls bytes at new
bytes_after_write (Synced ∷ calls) bytes at new = bytes_after_write calls bytes at new
bytes_after_write (Unchanged ∷ calls) bytes at new = bytes_after_write calls bytes at new

pub bytes_after_sync : (calls : List DiskOp) (bytes : List ℕ) → bytes_after_ops bytes (calls ++ Synced ∷ []) ≡ bytes_after_ops bytes calls
bytes_after_sync [] bytes = refl
bytes_after_sync (Wrote a b ∷ calls) bytes = bytes_after_sync calls (with_write bytes a b.items)
bytes_after_sync (Tore a b ∷ calls) bytes = bytes_after_sync calls bytes
bytes_after_sync (Synced ∷ calls) bytes = bytes_after_sync calls bytes
bytes_after_sync (Unchanged ∷ calls) bytes = bytes_after_sync calls bytes

-- ---- as the clauses of a disk state it, of the record of calls after one more

pub follow_write : (first : List ℕ) (calls later : List DiskOp) (at : ℕ) (new : Vec ℕ Global) (bytes : List ℕ) → new.items ≡ bytes → later ≡ calls ++ Wrote at new ∷ []
    → Follows (Torn at (length bytes)) (crash_image_of first calls) (crash_image_of first later)
follow_write first calls later at new bytes is more c left =
    let one = after_write calls first (λ d. d ≡ first) at new c (subst (λ (l : List DiskOp). crash_image_of first l c) more left) in
    (one.0, one.1, subst (λ (b : List ℕ). Torn at (length b) one.0 c) is one.2)

pub follow_tore : (first : List ℕ) (calls later : List DiskOp) (at : ℕ) (new : Vec ℕ Global) (bytes : List ℕ) → new.items ≡ bytes → later ≡ calls ++ Tore at new ∷ []
    → Follows (Torn at (length bytes)) (crash_image_of first calls) (crash_image_of first later)
follow_tore first calls later at new bytes is more c left =
    let one = after_tore calls first (λ d. d ≡ first) at new c (subst (λ (l : List DiskOp). crash_image_of first l c) more left) in
    (one.0, one.1, subst (λ (b : List ℕ). Torn at (length b) one.0 c) is one.2)

pub follow_same : (first : List ℕ) (calls : List DiskOp) (at n : ℕ) → Follows (Torn at n) (crash_image_of first calls) (crash_image_of first calls)
follow_same first calls at n c left = (c, left, torn_same at n c)

pub only_synced : (first : List ℕ) (calls later : List DiskOp) → later ≡ calls ++ Synced ∷ [] → Only (bytes_after_ops first calls) (crash_image_of first later)
only_synced first calls later more c left = after_sync calls first (λ d. d ≡ first) c (subst (λ (l : List DiskOp). crash_image_of first l c) more left)

pub missed : (first : List ℕ) (calls later : List DiskOp) (c : List ℕ) → later ≡ calls ++ Unchanged ∷ [] → crash_image_of first later c → crash_image_of first calls c
missed first calls later c more left = after_missed calls first (λ d. d ≡ first) c (subst (λ (l : List DiskOp). crash_image_of first l c) more left)

pub elapses_same : (first : List ℕ) (calls : List DiskOp) → Elapses (length calls) (length calls) (CrashImageSince first calls) (CrashImageSince first calls) (crash_image_of first calls)
elapses_same first calls = record { later = omega arith; nothing_else = λ t c le since. inl since; keeps = λ t c le since. since }

elapses_push : (first : List ℕ) (calls : List DiskOp) (d : DiskOp)
    → Elapses (length calls) (length (calls ++ d ∷ [])) (CrashImageSince first calls) (CrashImageSince first (calls ++ d ∷ [])) (crash_image_of first (calls ++ d ∷ []))
elapses_push first calls d =
    let size : length (calls ++ d ∷ []) ≡ length calls + 1 = omega (arith, length-append calls (d ∷ [])) in
    record {
      later = omega (arith, size);
      nothing_else = λ t c le since. elim (cases_lt since.0 (length calls + 1)) [
        | inl early ↦ inl (
          since.0,
          since.1,
          omega (arith, early),
          subst (λ (l : List DiskOp). crash_image_of first l c)
              (take-append-le since.0 calls (d ∷ []) (omega (arith, early))) since.3,
        )
        | inr last ↦ inr (subst (λ (l : List DiskOp). crash_image_of first l c) (take_all since.0 (calls ++ d ∷ []) (omega (arith, size, last))) since.3)
      ];
      keeps = λ t c le since.
          (since.0, since.1, omega (arith, size, since.2), subst (λ (l : List DiskOp). crash_image_of first l c) (sym (take-append-le since.0 calls (d ∷ []) since.2)) since.3);
    }

pub elapses_more : (first : List ℕ) (calls later : List DiskOp) (d : DiskOp) → later ≡ calls ++ d ∷ []
    → Elapses (length calls) (length later) (CrashImageSince first calls) (CrashImageSince first later) (crash_image_of first later)
elapses_more first calls later d more =
    subst (λ (l : List DiskOp). Elapses (length calls) (length l) (CrashImageSince first calls) (CrashImageSince first l) (crash_image_of first l)) (sym more) (elapses_push first calls d)

pub follow_keep : (first : List ℕ) (calls later : List DiskOp) (at n : ℕ) → later ≡ calls → Follows (Torn at n) (crash_image_of first calls) (crash_image_of first later)
follow_keep first calls later at n same c left = (c, subst (λ (l : List DiskOp). crash_image_of first l c) same left, torn_same at n c)

pub elapses_keep : (first : List ℕ) (calls later : List DiskOp) → later ≡ calls
    → Elapses (length calls) (length later) (CrashImageSince first calls) (CrashImageSince first later) (crash_image_of first later)
elapses_keep first calls later same =
    subst (λ (l : List DiskOp). Elapses (length calls) (length l) (CrashImageSince first calls) (CrashImageSince first l) (crash_image_of first l)) (sym same) (elapses_same first calls)

-- ---- a call that changes nothing

bytes_after_unchanged : (calls : List DiskOp) (bytes : List ℕ) → bytes_after_ops bytes (calls ++ Unchanged ∷ []) ≡ bytes_after_ops bytes calls
bytes_after_unchanged [] bytes = refl
bytes_after_unchanged (Wrote a b ∷ calls) bytes = bytes_after_unchanged calls (with_write bytes a b.items)
bytes_after_unchanged (Tore a b ∷ calls) bytes = bytes_after_unchanged calls bytes
bytes_after_unchanged (Synced ∷ calls) bytes = bytes_after_unchanged calls bytes
bytes_after_unchanged (Unchanged ∷ calls) bytes = bytes_after_unchanged calls bytes

-- of a disk whose first bytes and whose record are as before, or have one such call more
module _ (first other : List ℕ) (calls later : List DiskOp) (is : other ≡ first) where
  pub kept_leaves : later ≡ calls → (c : List ℕ) → crash_image_of other later c → crash_image_of first calls c
  kept_leaves same c left = subst (λ (f : List ℕ). crash_image_of f calls c) is (subst (λ (l : List DiskOp). crash_image_of other l c) same left)

  pub unchanged_leaves : later ≡ calls ++ Unchanged ∷ [] → (c : List ℕ) → crash_image_of other later c → crash_image_of first calls c
  unchanged_leaves more c left = missed first calls later c more (subst (λ (f : List ℕ). crash_image_of f later c) is left)

  pub kept_elapses : later ≡ calls → Elapses (length calls) (length later) (CrashImageSince first calls) (CrashImageSince other later) (crash_image_of other later)
  kept_elapses same = subst (λ (f : List ℕ). Elapses (length calls) (length later) (CrashImageSince first calls) (CrashImageSince f later) (crash_image_of f later)) (sym is)
      (elapses_keep first calls later same)

  pub unchanged_elapses : later ≡ calls ++ Unchanged ∷ [] → Elapses (length calls) (length later) (CrashImageSince first calls) (CrashImageSince other later) (crash_image_of other later)
  unchanged_elapses more = subst (λ (f : List ℕ). Elapses (length calls) (length later) (CrashImageSince first calls) (CrashImageSince f later) (crash_image_of f later)) (sym is)
      (elapses_more first calls later Unchanged more)

  pub same_calls_same_bytes : later ≡ calls → bytes_after_ops other later ≡ bytes_after_ops first calls
  same_calls_same_bytes same = ap (λ (f : List ℕ). bytes_after_ops f later) is ∙ ap (bytes_after_ops first) same

  pub unchanged_same_bytes : later ≡ calls ++ Unchanged ∷ [] → bytes_after_ops other later ≡ bytes_after_ops first calls
  unchanged_same_bytes more = ap (λ (f : List ℕ). bytes_after_ops f later) is ∙ ap (bytes_after_ops first) more ∙ bytes_after_unchanged calls first

-- ---- replaying the record

bytes_after_push : (calls : List DiskOp) (bytes : List ℕ) (d : DiskOp) → bytes_after_ops bytes (calls ++ d ∷ []) ≡ bytes_after_ops (bytes_after_ops bytes calls) (d ∷ [])
bytes_after_push [] bytes d = refl
bytes_after_push (Wrote a b ∷ calls) bytes d = bytes_after_push calls (with_write bytes a b.items) d
bytes_after_push (Tore a b ∷ calls) bytes d = bytes_after_push calls bytes d
bytes_after_push (Synced ∷ calls) bytes d = bytes_after_push calls bytes d
bytes_after_push (Unchanged ∷ calls) bytes d = bytes_after_push calls bytes d

pub replay_more : (first : List ℕ) (calls : List DiskOp) (i : ℕ) (d : DiskOp) (before after : List ℕ) → i < length calls → d ≡ get_or calls i d
    → before ≡ bytes_after_ops first (take i calls) → after ≡ bytes_after_ops before (d ∷ []) → after ≡ bytes_after_ops first (take (i + 1) calls)
replay_more first calls i d before after lt is so_far one =
    one ∙ ap (λ (b : List ℕ). bytes_after_ops b (d ∷ [])) so_far ∙ sym (bytes_after_push (take i calls) first d)
    ∙ ap (λ (x : DiskOp). bytes_after_ops first (take i calls ++ x ∷ [])) is ∙ ap (bytes_after_ops first) (sym (take_more calls i d lt))
