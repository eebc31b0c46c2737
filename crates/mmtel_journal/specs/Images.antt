-- Facts about what a stop may leave of a disk in memory, for the clauses of a disk.
use Rattle.std.proofs.Common.{◌≡◌, inl, inr, ℕ, ◌+◌, ◌-◌, ◌≤◌, List, [], ◌∷◌, ◌++◌, length, get_or, take, drop, refl, sym, ◌∙◌, ap, subst, arith, length-append, length-drop}
use Rattle.std.proofs.lemmas.List.{length-take, take_all, get_or_append_left, get_or-append_right, get_or-take, get_or-drop}
use Rattle.mmtel_journal.specs.Disks.{Torn}
use Rattle.mmtel_journal.specs.Memory.{with_write, bytes_after_ops, AfterWrite, crash_images_after, crash_image_of, CrashImageSince}
use Rattle.mmtel_journal.specs.declared.memory.DiskOp.{DiskOp}
use Rattle.mmtel_journal.specs.declared.memory.DiskOp.TheVariants.{Wrote, Tore, Synced, Unchanged}

pub torn_same : (at n : ℕ) (d : List ℕ) → Torn at n d d
torn_same at n d = record { no_shorter = omega arith; stays = λ i lt out. refl }

-- the completed write is one of the outcomes of a write that a stop interrupts
pub torn_written : (at : ℕ) (new d : List ℕ) → Torn at (length new) d (with_write d at new)
torn_written at new d =
    let n = length new in
    let front : List ℕ = take at d ++ new in
    let rest : List ℕ = drop (at + n) d in
    let size : length front ≡ length (take at d) + n = length-append (take at d) new in
    record {
      no_shorter = omega (arith, length-append front rest, size, length-take at d, length-drop (at + n) d);
      stays = λ i lt out. elim out [
        | inl before ↦
            get_or_append_left front rest 0 i (omega (arith, size, length-take at d, lt, before))
            ∙ get_or_append_left (take at d) new 0 i (omega (arith, length-take at d, lt, before)) ∙ get_or-take at d i 0 before
        | inr behind ↦
            let back : at + n + (i - (at + n)) ≡ i = omega (arith, behind) in
            get_or-append_right front rest (at + n) i 0 (omega (arith, size, length-take at d, lt, behind)) behind
            ∙ get_or-drop (at + n) d (i - (at + n)) 0 ∙ ap (λ k. get_or d k 0) back
      ];
    }

contents_are_possible : (calls : List DiskOp) (bytes : List ℕ) (P : List ℕ → Type 0) → P bytes → crash_images_after bytes P calls (bytes_after_ops bytes calls)
contents_are_possible [] bytes P has = has
contents_are_possible (Wrote at new ∷ calls) bytes P has =
    contents_are_possible calls (with_write bytes at new.items) (AfterWrite at new.items P) (bytes, has, torn_written at new.items bytes)
contents_are_possible (Tore at new ∷ calls) bytes P has = contents_are_possible calls bytes (AfterWrite at new.items P) (bytes, has, torn_same at (length new.items) bytes)
contents_are_possible (Synced ∷ calls) bytes P has = contents_are_possible calls bytes (λ d. d ≡ bytes) refl
contents_are_possible (Unchanged ∷ calls) bytes P has = contents_are_possible calls bytes P has

pub contents_are_an_image : (first : List ℕ) (calls : List DiskOp) → crash_image_of first calls (bytes_after_ops first calls)
contents_are_an_image first calls = contents_are_possible calls first (λ d. d ≡ first) refl

pub images_are_since : (first : List ℕ) (calls : List DiskOp) (t : ℕ) (c : List ℕ) → t ≤ length calls → crash_image_of first calls c → CrashImageSince first calls t c
images_are_since first calls t c le left =
    let all : take (length calls) calls ≡ calls = take_all (length calls) calls (omega arith) in
    (length calls, le, omega arith, subst (λ (l : List DiskOp). crash_image_of first l c) (sym all) left)

pub since_last_is_image : (first : List ℕ) (calls : List DiskOp) (c : List ℕ) → CrashImageSince first calls (length calls) c → crash_image_of first calls c
since_last_is_image first calls c since = subst (λ (l : List DiskOp). crash_image_of first l c) (take_all since.0 calls (omega (arith, since.1))) since.3
