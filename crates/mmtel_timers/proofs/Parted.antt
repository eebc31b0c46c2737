-- A list in parts: what is looked up, inserted, removed and searched for in one part, as it is in the whole list.
use Rattle.std.proofs.Common.{◌≡◌, ℕ, zero, suc, ◌+◌, ◌-◌, ◌*◌, ◌/◌, ◌^◌, ◌≤◌, ◌<◌, Bool, true, false, List, [], ◌∷◌, ◌++◌, length, refl, sym, ap, ◌∙◌, subst, arith, inl, inr, ◌⊎◌, Some, None, Option, IfSome}
use Rattle.std.specs.Prelude.{insert, remove, set, slice_get, slice_index_or}
use Rattle.std.specs.List.{AllByRecursion, AllWithin}
use Rattle.std.specs.List.Sorted.{IsPartitionedBy, IsPartitionPoint}
use Rattle.std.proofs.Math.Nat.{lt-mul-div-succ, mul-div-le, mul-le-mul_left}
use Rattle.std.proofs.lemmas.Option.{get_or_from_slice_get, none-some, same_Some, slice_get_past, slice_get_within}
use Rattle.std.proofs.lemmas.List.{append_assoc, length-append, get_or_append_left}
use Rattle.std.proofs.lemmas.List.Edits.{insert-append_left, length-insert, length-remove, remove-append_left}
use Rattle.std.proofs.lemmas.List.Elements.{All-from_recursion}
use Rattle.mmtel_timers.specs.Parts.{ArePartsFrom, IsInPart, IsPartedState, items_before, joined, part_of}
use Rattle.mmtel_timers.specs.Shelves.{IsFirstOfRank}
use Rattle.mmtel_timers.proofs.Ordered.{all_in, all_out}

-- ---- ranks and their parts

below_by_parts : (n a b : ℕ) → 0 < n → a / n < b / n → a < b
below_by_parts n a b p l =
    let over : a < n * (a / n + 1) = lt-mul-div-succ a p in
    let next : a / n + 1 ≤ b / n = omega (arith, l) in
    let more : n * (a / n + 1) ≤ n * (b / n) = mul-le-mul_left n next in
    let under : n * (b / n) ≤ b = mul-div-le b n in
    omega (arith, over, more, under)

-- a rank of an earlier part is lower
pub lower_part : (a b : ℕ) → part_of a < part_of b → a < b
lower_part a b l = below_by_parts (2 ^ 58) a b (omega arith) l

-- ---- facts about each item

pub all_weaken : {X : Type 0} (P Q : X → Type 0) → ((x : X) → P x → Q x) → (xs : List X) → AllByRecursion P xs → AllByRecursion Q xs
all_weaken P Q f [] a = tt
all_weaken P Q f (x ∷ xs) a = (f x a.0, all_weaken P Q f xs a.1)

all_append : {X : Type 0} (P : X → Type 0) (xs ys : List X) → AllByRecursion P xs → AllByRecursion P ys → AllByRecursion P (xs ++ ys)
all_append P [] ys a b = b
all_append P (x ∷ xs) ys a b = (a.0, all_append P xs ys a.1 b)

-- ---- one part of three: what comes before it, its items, and what comes after it

module _ {X : Type 0} where
  get_left : (ys B : List X) (q : ℕ) → q < length ys → slice_get (ys ++ B) q ≡ slice_get ys q
  get_left [] B q l = absurd (omega (arith, l))
  get_left (y ∷ ys) B zero l = refl
  get_left (y ∷ ys) B (suc q) l = get_left ys B q (omega (arith, l))

  get_own : (A ys B : List X) (q n : ℕ) → n ≡ length A + q → q < length ys → slice_get (A ++ (ys ++ B)) n ≡ slice_get ys q
  get_own [] ys B q n e l = let same : n ≡ q = omega (arith, e) in ap (slice_get (ys ++ B)) same ∙ get_left ys B q l
  get_own (x ∷ A) ys B q zero e l = absurd (omega (arith, e))
  get_own (x ∷ A) ys B q (suc n) e l = get_own A ys B q n (omega (arith, e)) l

  insert_own : (A ys B : List X) (q n : ℕ) (x : X) → n ≡ length A + q → q ≤ length ys → insert (A ++ (ys ++ B)) n x ≡ A ++ (insert ys q x ++ B)
  insert_own [] ys B q n x e l = let same : n ≡ q = omega (arith, e) in ap (λ m. insert (ys ++ B) m x) same ∙ insert-append_left ys B q x l
  insert_own (a ∷ A) ys B q zero x e l = absurd (omega (arith, e))
  insert_own (a ∷ A) ys B q (suc n) x e l = ap (λ (zs : List X). a ∷ zs) (insert_own A ys B q n x (omega (arith, e)) l)

  remove_own : (A ys B : List X) (q n : ℕ) → n ≡ length A + q → q < length ys → remove (A ++ (ys ++ B)) n ≡ A ++ (remove ys q ++ B)
  remove_own [] ys B q n e l = let same : n ≡ q = omega (arith, e) in ap (remove (ys ++ B)) same ∙ remove-append_left ys B q l
  remove_own (a ∷ A) ys B q zero e l = absurd (omega (arith, e))
  remove_own (a ∷ A) ys B q (suc n) e l = ap (λ (zs : List X). a ∷ zs) (remove_own A ys B q n (omega (arith, e)) l)

  pub remove_past : (xs : List X) (n : ℕ) → length xs ≤ n → remove xs n ≡ xs
  remove_past [] zero l = refl
  remove_past [] (suc n) l = refl
  remove_past (x ∷ xs) zero l = absurd (omega (arith, l))
  remove_past (x ∷ xs) (suc n) l = ap (λ (zs : List X). x ∷ zs) (remove_past xs n (omega (arith, l)))

  none_from : (xs : List X) (n : ℕ) → slice_get xs n ≡ None → length xs ≤ n
  none_from [] n q = omega arith
  none_from (x ∷ xs) zero q = absurd (none-some x (sym q))
  none_from (x ∷ xs) (suc n) q = omega (arith, none_from xs n q)

  -- what is at a place after those of the first list, if there is one
  if_any : (P : X → Type 0) (B : List X) (n : ℕ) → AllByRecursion P B → IfSome (slice_get B n) P
  if_any P [] n a = tt
  if_any P (b ∷ B) zero a = a.0
  if_any P (b ∷ B) (suc n) a = if_any P B n a.1

  if_after : (P : X → Type 0) (C B : List X) (n : ℕ) → length C ≤ n → AllByRecursion P B → IfSome (slice_get (C ++ B) n) P
  if_after P [] B n l a = if_any P B n a
  if_after P (c ∷ C) B zero l a = absurd (omega (arith, l))
  if_after P (c ∷ C) B (suc n) l a = if_after P C B n (omega (arith, l)) a

  -- what is partitioned by a test has parts that are
  parted_own : (p : X → Bool) (A ys B : List X) → IsPartitionedBy p (A ++ (ys ++ B)) → IsPartitionedBy p ys
  parted_own p [] ys B h = λ i j d le lt t.
      let here = get_or_append_left ys B d i (omega (arith, le, lt)) in
      let there = get_or_append_left ys B d j lt in
      ap p (sym here) ∙ h i j d le (omega (arith, lt, length-append ys B)) (ap p there ∙ t)
  parted_own p (x ∷ A) ys B h = parted_own p A ys B (λ i j d le lt t. h (suc i) (suc j) d (omega (arith, le)) (omega (arith, lt)) t)

  module _ (P Q : X → Type 0) where
    below : (A ys B : List X) (q k : ℕ) (d : X) → k < length A + q → q ≤ length ys → AllByRecursion P A → AllWithin P ys 0 q → P (slice_index_or (A ++ (ys ++ B)) k d)
    below [] ys B q k d l m a h = subst P (sym (get_or_append_left ys B d k (omega (arith, l, m)))) (h k d (omega arith) (omega (arith, l)))
    below (x ∷ A) ys B q zero d l m a h = a.0
    below (x ∷ A) ys B q (suc k) d l m a h = below A ys B q k d (omega (arith, l)) m a.1 h

    from_own : (ys B : List X) (q k : ℕ) (d : X) → q ≤ k → k < length (ys ++ B) → AllWithin Q ys q (length ys) → AllByRecursion Q B → Q (slice_index_or (ys ++ B) k d)
    from_own [] B q k d l m h b = All-from_recursion Q B b k d m
    from_own (y ∷ ys) B q zero d l m h b = h zero d l (omega arith)
    from_own (y ∷ ys) B q (suc k) d l m h b = from_own ys B (q - 1) k d (omega (arith, l)) (omega (arith, m)) (λ j e s t. h (suc j) e (omega (arith, s)) (omega (arith, t))) b

    above : (A ys B : List X) (q k : ℕ) (d : X) → length A + q ≤ k → k < length (A ++ (ys ++ B)) → AllWithin Q ys q (length ys) → AllByRecursion Q B → Q (slice_index_or (A ++ (ys ++ B)) k d)
    above [] ys B q k d l m h b = from_own ys B q k d (omega (arith, l)) m h b
    above (x ∷ A) ys B q zero d l m h b = absurd (omega (arith, l))
    above (x ∷ A) ys B q (suc k) d l m h b = above A ys B q k d (omega (arith, l)) (omega (arith, m)) h b

    -- a place that separates the items of one part separates all items, where all that come before the part are on its one side and all that come after on the other
    point_own : (A ys B : List X) (q : ℕ) → q ≤ length ys → AllByRecursion P A → IsPartitionPoint P Q ys q → AllByRecursion Q B → IsPartitionPoint P Q (A ++ (ys ++ B)) (length A + q)
    point_own A ys B q l a h b = (λ k d s t. below A ys B q k d t l a h.0, λ k d s t. above A ys B q k d s t h.1 b)

-- ---- the parts

module _ {X : Type 0} where
  -- the items of the parts after one
  abbrev items_after : ℕ → List (List X) → List X
  items_after part [] = []
  items_after zero (xs ∷ parts) = joined parts
  items_after (suc part) (xs ∷ parts) = items_after part parts

  whole : (parts : List (List X)) (i : ℕ) (ys : List X) → slice_get parts i ≡ Some ys → joined parts ≡ items_before i parts ++ (ys ++ items_after i parts)
  whole [] i ys q = absurd (none-some ys q)
  whole (xs ∷ parts) zero ys q = ap (λ (zs : List X). zs ++ joined parts) (same_Some xs ys q)
  whole (xs ∷ parts) (suc i) ys q = ap (λ (zs : List X). xs ++ zs) (whole parts i ys q) ∙ sym (append_assoc xs (items_before i parts) (ys ++ items_after i parts))

  whole_set : (parts : List (List X)) (i : ℕ) (ys zs : List X) → slice_get parts i ≡ Some ys → joined (set parts i zs) ≡ items_before i parts ++ (zs ++ items_after i parts)
  whole_set [] i ys zs q = absurd (none-some ys q)
  whole_set (xs ∷ parts) zero ys zs q = refl
  whole_set (xs ∷ parts) (suc i) ys zs q = ap (λ (ws : List X). xs ++ ws) (whole_set parts i ys zs q) ∙ sym (append_assoc xs (items_before i parts) (zs ++ items_after i parts))

  pub before_step : (parts : List (List X)) (i j : ℕ) (ys : List X) → j ≡ i + 1 → slice_get parts i ≡ Some ys → length (items_before j parts) ≡ length (items_before i parts) + length ys
  before_step parts i zero ys e q = absurd (omega (arith, e))
  before_step [] i (suc j) ys e q = absurd (none-some ys q)
  before_step (xs ∷ parts) zero (suc zero) ys e q = omega (arith, length-append xs [], ap length (same_Some xs ys q))
  before_step (xs ∷ parts) zero (suc (suc j)) ys e q = absurd (omega (arith, e))
  before_step (xs ∷ parts) (suc i) (suc j) ys e q =
      omega (arith, length-append xs (items_before j parts), length-append xs (items_before i parts), before_step parts i j ys (omega (arith, e)) q)

  pub before_all : (parts : List (List X)) (i : ℕ) → length parts ≤ i → items_before i parts ≡ joined parts
  before_all [] zero l = refl
  before_all [] (suc i) l = refl
  before_all (xs ∷ parts) zero l = absurd (omega (arith, l))
  before_all (xs ∷ parts) (suc i) l = ap (λ (zs : List X). xs ++ zs) (before_all parts i (omega (arith, l)))

  module _ (parts : List (List X)) (i : ℕ) (ys : List X) (there : slice_get parts i ≡ Some ys) where
    -- the items up to the end of a part are no more than all
    pub before_own : length (items_before i parts) + length ys ≤ length (joined parts)
    before_own =
        omega (arith, ap length (whole parts i ys there), length-append (items_before i parts) (ys ++ items_after i parts), length-append ys (items_after i parts))

    pub get_in_part : (q n : ℕ) → n ≡ length (items_before i parts) + q → q < length ys → slice_get (joined parts) n ≡ slice_get ys q
    get_in_part q n e l = ap (λ (zs : List X). slice_get zs n) (whole parts i ys there) ∙ get_own (items_before i parts) ys (items_after i parts) q n e l

    pub insert_in_part : (q n : ℕ) (x : X) (zs : List X) → n ≡ length (items_before i parts) + q → q ≤ length ys → zs ≡ insert ys q x → joined (set parts i zs) ≡ insert (joined parts) n x
    insert_in_part q n x zs e l put =
        whole_set parts i ys zs there
        ∙ (ap (λ (ws : List X). items_before i parts ++ (ws ++ items_after i parts)) put
        ∙ (sym (insert_own (items_before i parts) ys (items_after i parts) q n x e l)
        ∙ ap (λ (ws : List X). insert ws n x) (sym (whole parts i ys there))))

    pub remove_in_part : (q n : ℕ) (zs : List X) → n ≡ length (items_before i parts) + q → q < length ys → zs ≡ remove ys q → joined (set parts i zs) ≡ remove (joined parts) n
    remove_in_part q n zs e l out =
        whole_set parts i ys zs there
        ∙ (ap (λ (ws : List X). items_before i parts ++ (ws ++ items_after i parts)) out
        ∙ (sym (remove_own (items_before i parts) ys (items_after i parts) q n e l)
        ∙ ap (λ (ws : List X). remove ws n) (sym (whole parts i ys there))))

    -- as it was
    pub put_back_part : (zs : List X) → zs ≡ ys → joined (set parts i zs) ≡ joined parts
    put_back_part zs same = whole_set parts i ys zs there ∙ (ap (λ (ws : List X). items_before i parts ++ (ws ++ items_after i parts)) same ∙ sym (whole parts i ys there))

    pub parted_in_part : (p : X → Bool) → IsPartitionedBy p (joined parts) → IsPartitionedBy p ys
    parted_in_part p h = parted_own p (items_before i parts) ys (items_after i parts) (subst (IsPartitionedBy p) (whole parts i ys there) h)

    pub point_in_part : (P Q : X → Type 0) (q : ℕ) → q ≤ length ys → AllByRecursion P (items_before i parts) → IsPartitionPoint P Q ys q → AllByRecursion Q (items_after i parts)
        → IsPartitionPoint P Q (joined parts) (length (items_before i parts) + q)
    point_in_part P Q q l a h b =
        subst (λ (zs : List X). IsPartitionPoint P Q zs (length (items_before i parts) + q)) (sym (whole parts i ys there)) (point_own P Q (items_before i parts) ys (items_after i parts) q l a h b)

-- an item of a part is the item at its place
module _ {X : Type 0} (parts : List (List X)) (place i own : ℕ) (at : IsInPart parts place i own) where
  pub read_part : (ys : List X) → ys ≡ slice_index_or parts i ys → ys ≡ at.items
  read_part ys q = q ∙ get_or_from_slice_get parts i at.items ys at.there

  pub read_in_part : (ys : List X) → ys ≡ slice_index_or parts i ys → slice_get ys own ≡ slice_get (joined parts) place
  read_in_part ys q = ap (λ (zs : List X). slice_get zs own) (read_part ys q) ∙ sym (get_in_part parts i at.items at.there own place at.placed at.within)

-- one more part without items
pub joined_more : {X : Type 0} (parts : List (List X)) → joined (parts ++ [] ∷ []) ≡ joined parts
joined_more [] = refl
joined_more {X} (xs ∷ parts) = ap (λ (zs : List X). xs ++ zs) (joined_more parts)

-- ---- the ranks of the parts

module _ {X : Type 0} (rank : X → ℕ) where
  pub parts_more : (n : ℕ) (parts : List (List X)) → ArePartsFrom rank n parts → ArePartsFrom rank n (parts ++ [] ∷ [])
  parts_more n [] a = (tt, tt)
  parts_more n (xs ∷ parts) a = (a.0, parts_more (suc n) parts a.1)

  own_part : (parts : List (List X)) (n i m : ℕ) (ys : List X) → m ≡ n + i → slice_get parts i ≡ Some ys → ArePartsFrom rank n parts → AllByRecursion (λ x. part_of (rank x) ≡ m) ys
  own_part [] n i m ys e q a = absurd (none-some ys q)
  own_part (xs ∷ parts) n zero m ys e q a =
      let same : n ≡ m = omega (arith, e) in
      subst (λ (zs : List X). AllByRecursion (λ x. part_of (rank x) ≡ m) zs) (same_Some xs ys q) (subst (λ (k : ℕ). AllByRecursion (λ x. part_of (rank x) ≡ k) xs) same a.0)
  own_part (xs ∷ parts) n (suc i) m ys e q a = own_part parts (suc n) i m ys (omega (arith, e)) q a.1

  set_part : (parts : List (List X)) (n i m : ℕ) (ys zs : List X) → m ≡ n + i → slice_get parts i ≡ Some ys → ArePartsFrom rank n parts → AllByRecursion (λ x. part_of (rank x) ≡ m) zs
      → ArePartsFrom rank n (set parts i zs)
  set_part [] n i m ys zs e q a h = absurd (none-some ys q)
  set_part (xs ∷ parts) n zero m ys zs e q a h =
      let same : m ≡ n = omega (arith, e) in
      (subst (λ (k : ℕ). AllByRecursion (λ x. part_of (rank x) ≡ k) zs) same h, a.1)
  set_part (xs ∷ parts) n (suc i) m ys zs e q a h = (a.0, set_part parts (suc n) i m ys zs (omega (arith, e)) q a.1 h)

  before_lower : (parts : List (List X)) (n i : ℕ) → ArePartsFrom rank n parts → AllByRecursion (λ x. part_of (rank x) < n + i) (items_before i parts)
  before_lower parts n zero a = tt
  before_lower [] n (suc i) a = tt
  before_lower (xs ∷ parts) n (suc i) a =
      all_append (λ x. part_of (rank x) < n + suc i) xs (items_before i parts)
      (all_weaken (λ x. part_of (rank x) ≡ n) (λ x. part_of (rank x) < n + suc i) (λ x e. omega (arith, e)) xs a.0)
      (all_weaken (λ x. part_of (rank x) < suc n + i) (λ x. part_of (rank x) < n + suc i) (λ x l. omega (arith, l)) (items_before i parts) (before_lower parts (suc n) i a.1))

  from_higher : (parts : List (List X)) (n m : ℕ) → m < n → ArePartsFrom rank n parts → AllByRecursion (λ x. m < part_of (rank x)) (joined parts)
  from_higher [] n m l a = tt
  from_higher (xs ∷ parts) n m l a =
      all_append (λ x. m < part_of (rank x)) xs (joined parts)
      (all_weaken (λ x. part_of (rank x) ≡ n) (λ x. m < part_of (rank x)) (λ x e. omega (arith, e, l)) xs a.0) (from_higher parts (suc n) m (omega (arith, l)) a.1)

  after_higher : (parts : List (List X)) (n i : ℕ) → ArePartsFrom rank n parts → AllByRecursion (λ x. n + i < part_of (rank x)) (items_after i parts)
  after_higher [] n i a = tt
  after_higher (xs ∷ parts) n zero a = from_higher parts (suc n) (n + 0) (omega arith) a.1
  after_higher (xs ∷ parts) n (suc i) a =
      all_weaken (λ x. suc n + i < part_of (rank x)) (λ x. n + suc i < part_of (rank x)) (λ x l. omega (arith, l)) (items_after i parts) (after_higher parts (suc n) i a.1)

  -- a place from which on ranks are not lower is after those that are, and one up to which they are not higher is before those that are
  under : (r : ℕ) (A C : List X) (place : ℕ) → AllByRecursion (λ x. rank x < r) A → AllWithin (λ x. r ≤ rank x) (A ++ C) place (length (A ++ C)) → length A ≤ place
  under r [] C place a h = omega arith
  under r (x ∷ A) C zero a h = let over : r ≤ rank x = h zero x (omega arith) (omega arith) in absurd (omega (arith, over, a.0))
  under r (x ∷ A) C (suc place) a h = omega (arith, under r A C place a.1 (λ k d s t. h (suc k) d (omega (arith, s)) (omega (arith, t))))

  up_to : (r : ℕ) (C B : List X) (place : ℕ) → AllWithin (λ x. rank x ≤ r) (C ++ B) 0 place → place ≤ length (C ++ B) → AllByRecursion (λ x. r < rank x) B → place ≤ length C
  up_to r C B zero h l b = omega arith
  up_to r [] [] (suc place) h l b = absurd (omega (arith, l))
  up_to r [] (x ∷ B) (suc place) h l b = let over : rank x ≤ r = h zero x (omega arith) (omega arith) in absurd (omega (arith, over, b.0))
  up_to r (x ∷ C) B (suc place) h l b = omega (arith, up_to r C B place (λ k d s t. h (suc k) d (omega arith) (omega (arith, t))) (omega (arith, l)) b)

  module _ (parts : List (List X)) (are : ArePartsFrom rank 0 parts) where
    -- the items before the part of a rank have lower ranks, and those after it have higher ones
    lower_before : (r i : ℕ) → part_of r ≡ i → AllByRecursion (λ x. rank x < r) (items_before i parts)
    lower_before r i e =
        all_weaken (λ x. part_of (rank x) < 0 + i) (λ x. rank x < r) (λ x l. lower_part (rank x) r (omega (arith, l, e))) (items_before i parts) (before_lower parts 0 i are)

    higher_after : (r i : ℕ) → part_of r ≡ i → AllByRecursion (λ x. r < rank x) (items_after i parts)
    higher_after r i e =
        all_weaken (λ x. 0 + i < part_of (rank x)) (λ x. r < rank x) (λ x l. lower_part r (rank x) (omega (arith, l, e))) (items_after i parts) (after_higher parts 0 i are)

    parts_in : (i : ℕ) (ys zs : List X) → slice_get parts i ≡ Some ys → AllByRecursion (λ x. part_of (rank x) ≡ i) zs → ArePartsFrom rank 0 (set parts i zs)
    parts_in i ys zs there h = set_part parts 0 i i ys zs (omega arith) there are h

    of_part : (i : ℕ) (ys : List X) → slice_get parts i ≡ Some ys → AllByRecursion (λ x. part_of (rank x) ≡ i) ys
    of_part i ys there = own_part parts 0 i i ys (omega arith) there are

    -- a place where an item of the rank belongs is in the part of the rank
    module _ (r i : ℕ) (ys : List X) (e : part_of r ≡ i) (there : slice_get parts i ≡ Some ys) (place start : ℕ) (starts : start ≡ length (items_before i parts))
        (at : IsPartitionPoint (λ x. rank x ≤ r) (λ x. r ≤ rank x) (joined parts) place) (within : place ≤ length (joined parts)) where
      pub start_under : start ≤ place
      start_under =
          let l = under r (items_before i parts) (ys ++ items_after i parts) place (lower_before r i e) (subst (λ (zs : List X). AllWithin (λ x. r ≤ rank x) zs place (length zs)) (whole parts i ys there) at.1) in
          omega (arith, starts, l)

      pub end_over : place - start ≤ length ys
      end_over =
          let is : joined parts ≡ (items_before i parts ++ ys) ++ items_after i parts = whole parts i ys there ∙ sym (append_assoc (items_before i parts) ys (items_after i parts)) in
          let upper = subst (λ (zs : List X). AllWithin (λ x. rank x ≤ r) zs 0 place) is at.0 in
          let among = subst (λ (zs : List X). place ≤ length zs) is within in
          let up = up_to r (items_before i parts ++ ys) (items_after i parts) place upper among (higher_after r i e) in
          omega (arith, up, length-append (items_before i parts) ys, starts)

      pub put_joined : (x : X) (zs : List X) → zs ≡ insert ys (place - start) x → joined (set parts i zs) ≡ insert (joined parts) place x
      put_joined x zs put = insert_in_part parts i ys there (place - start) place x zs (let l = start_under in omega (arith, l, starts)) end_over put

      pub put_state : (x : X) (zs : List X) (len : ℕ) → rank x ≡ r → zs ≡ insert ys (place - start) x → len ≡ length (joined parts) + 1 → IsPartedState rank len (set parts i zs)
      put_state x zs len own put count = record {
        count = count ∙ (sym (length-insert (joined parts) place x within) ∙ ap length (sym (put_joined x zs put)));
        parted = parts_in i ys zs there (subst (AllByRecursion (λ y. part_of (rank y) ≡ i)) (sym put) (all_in (λ y. part_of (rank y) ≡ i) (place - start) x ys (of_part i ys there) (ap part_of own ∙ e)));
      }

    -- an item of a part
    module _ (place i own : ℕ) (at : IsInPart parts place i own) where
      pub place_within : place < length (joined parts)
      place_within = omega (arith, before_own parts i at.items at.there, at.placed, at.within)

      pub out_joined : (zs : List X) → zs ≡ remove at.items own → joined (set parts i zs) ≡ remove (joined parts) place
      out_joined zs out = remove_in_part parts i at.items at.there own place zs at.placed at.within out

      pub out_state : (zs : List X) (len : ℕ) → zs ≡ remove at.items own → len ≡ length (joined parts) → IsPartedState rank (len - 1) (set parts i zs)
      out_state zs len out count = record {
        count =
            let less = length-remove (joined parts) place place_within in
            let left = ap length (out_joined zs out) in
            omega (arith, less, left, count);
        parted = parts_in i at.items zs at.there (subst (AllByRecursion (λ y. part_of (rank y) ≡ i)) (sym out) (all_out (λ y. part_of (rank y) ≡ i) own at.items (of_part i at.items at.there)));
      }

    -- a search by rank
    module _ (before : X → Bool) (r i : ℕ) (e : part_of r ≡ i) (lower : (x : X) → rank x < r → before x ≡ true) (higher : (x : X) → r < rank x → before x ≡ false) where
      -- in the part of the rank
      pub point_found : (ys : List X) (q : ℕ) → slice_get parts i ≡ Some ys → q ≤ length ys → IsPartitionPoint (λ x. before x ≡ true) (λ x. before x ≡ false) ys q
          → IsPartitionPoint (λ x. before x ≡ true) (λ x. before x ≡ false) (joined parts) (length (items_before i parts) + q)
      point_found ys q there l at =
          point_in_part parts i ys there (λ x. before x ≡ true) (λ x. before x ≡ false) q l
          (all_weaken (λ x. rank x < r) (λ x. before x ≡ true) lower (items_before i parts) (lower_before r i e)) at
          (all_weaken (λ x. r < rank x) (λ x. before x ≡ false) higher (items_after i parts) (higher_after r i e))

      pub item_found : (ys : List X) (q : ℕ) (found : Option X) → slice_get parts i ≡ Some ys → q ≤ length ys → IsPartitionPoint (λ x. before x ≡ true) (λ x. before x ≡ false) ys q → found ≡ slice_get ys q
          → IsFirstOfRank rank r before (joined parts) found
      item_found ys q found there l at is = record { place = length (items_before i parts) + q; parted = point_found ys q there l at; item = by_case (slice_get ys q) refl }
        where
          by_case : (o : Option X) → slice_get ys q ≡ o
              → (found ≡ slice_get (joined parts) (length (items_before i parts) + q)) ⊎ ((found ≡ None) × IfSome (slice_get (joined parts) (length (items_before i parts) + q)) (λ x. r < rank x))
          by_case (Some y) s = inl (is ∙ sym (get_in_part parts i ys there q (length (items_before i parts) + q) refl (slice_get_within ys q y s)))
          by_case None s =
              let past : length ys ≤ q = none_from ys q s in
              let long : length (items_before i parts ++ ys) ≤ length (items_before i parts) + q = omega (arith, length-append (items_before i parts) ys, past) in
              inr (
                is ∙ s,
                subst (λ (zs : List X). IfSome (slice_get zs (length (items_before i parts) + q)) (λ x. r < rank x))
                    (append_assoc (items_before i parts) ys (items_after i parts) ∙ sym (whole parts i ys there))
                    (if_after (λ x. r < rank x) (items_before i parts ++ ys) (items_after i parts) (length (items_before i parts) + q) long (higher_after r i e)),
              )

      -- where there is no such part
      all_past : length parts ≤ i → AllByRecursion (λ x. before x ≡ true) (joined parts)
      all_past l = all_weaken (λ x. rank x < r) (λ x. before x ≡ true) lower (joined parts) (subst (AllByRecursion (λ x. rank x < r)) (before_all parts i l) (lower_before r i e))

      pub point_past : length parts ≤ i → IsPartitionPoint (λ x. before x ≡ true) (λ x. before x ≡ false) (joined parts) (length (joined parts))
      point_past l = (λ k d s t. All-from_recursion (λ x. before x ≡ true) (joined parts) (all_past l) k d t, λ k d s t. absurd (omega (arith, s, t)))

      pub item_past : (found : Option X) → found ≡ None → length parts ≤ i → IsFirstOfRank rank r before (joined parts) found
      item_past found none l = record {
        place = length (joined parts);
        parted = point_past l;
        item = inl (none ∙ sym (slice_get_past (joined parts) (length (joined parts)) (omega arith)));
      }
