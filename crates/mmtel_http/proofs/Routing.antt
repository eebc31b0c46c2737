-- What the router of the three routes finds: the routes of the definition, for every path.
use Rattle.std.proofs.Common.{◌≡◌, ℕ, ◌-◌, ◌<◌, ◌==◌, ◌&&◌, suc, zero, List, [], ◌∷◌, ◌++◌, Option, Some, None, Bool, true, false}
use Rattle.std.proofs.Common.{cond, refl, sym, ap, ◌∙◌, arith, length, codes, nat_lt, get_or, inl, inr, take, drop, MatchOption, ◌⊎◌}
use Rattle.std.proofs.lemmas.Bool.Decides.{nat_tests}
use Rattle.std.proofs.lemmas.Bool.{cases_Bool, and_parts}
use Rattle.std.specs.List.{list_all}
use Rattle.std.specs.Str.{bytes_eq}
use Rattle.matchit.specs.Rows.{RowsOf}
use Rattle.matchit.specs.Seek.{seek, param_step}
use Rattle.matchit.specs.Seek as seek_words
use Rattle.matchit.specs.Router.{RouteOf}
use Rattle.mmtel_base.specs.Scanning.{after_text}
use Rattle.mmtel_http.specs.Resources.{has_slash, numbered_route, route_of, segment_route}
use Rattle.mmtel_http.specs.declared.routes.Route.{Route}
use Rattle.mmtel_http.specs.declared.routes.Route.TheVariants as route

-- the resource of a path: the charging rows, the record or the mailbox that this segment names, or none
data Named : Type 0 where
  charges : Named
  sheet : List ℕ → Named
  mailbox : List ℕ → Named
  nothing : Named

-- the text after a prefix, byte by byte
abbrev after : List ℕ → List ℕ → Option (List ℕ)
after [] text = Some text
after (p ∷ ps) [] = None
after (p ∷ ps) (b ∷ text) = cond (p == b) (after ps text) None

abbrev segment_or_nothing : (List ℕ → Named) → Option (List ℕ) → Named
segment_or_nothing kind None = nothing
segment_or_nothing kind (Some []) = nothing
segment_or_nothing kind (Some (b ∷ n)) = cond (has_slash (b ∷ n)) nothing (kind (b ∷ n))

abbrev sheet_or : Option (List ℕ) → Named → Named
sheet_or None other = other
sheet_or (Some n) other = segment_or_nothing sheet (Some n)

abbrev charges_or : Option (List ℕ) → Named → Named
charges_or (Some []) other = charges
charges_or _ other = other

abbrev named : List ℕ → Named
named path =
    charges_or (after (codes "/charges") path) (sheet_or (after (codes "/simservs/") path) (segment_or_nothing mailbox (after (codes "/mailbox/") path)))

slash-same : (path : List ℕ) → seek_words.has_slash path ≡ has_slash path
slash-same [] = refl
slash-same (b ∷ path) = rw (slash-same path)

-- what follows a word is short where the text is
after-small : (w path rest : List ℕ) → after w path ≡ Some rest → ((i : ℕ) → get_or path i 0 < 256) → (i : ℕ) → get_or rest i 0 < 256
after-small [] path rest e small = let same : path ≡ rest = cc in rw (← same) small
after-small (x ∷ w) [] rest e small = cc
after-small (x ∷ w) (b ∷ path) rest e small = by (x == b) (λ f. after-small w path rest f (λ i. small (suc i))) e
  where
    by : (c : Bool) → (after w path ≡ Some rest → (i : ℕ) → get_or rest i 0 < 256) → cond c (after w path) None ≡ Some rest → (i : ℕ) → get_or rest i 0 < 256
    by true go f = go f
    by false go f = cc

-- a record's path is no mailbox's
sheet-alone : (o : Option (List ℕ)) → sheet_or o nothing ≡ segment_or_nothing sheet o
sheet-alone None = refl
sheet-alone (Some n) = refl

module _ {K : Type 0} where
  no-rows : (b : Bool) (n : ℕ) → (cond {A = ℕ × RowsOf K} b (0, []) (n, [])).1 ≡ []
  no-rows true n = refl
  no-rows false n = refl

  or-none : (o : Option K) → seek_words.or_else o None ≡ o
  or-none None = refl
  or-none (Some k) = refl

  param-none : (path : List ℕ) → (param_step {K = K} [] path).1 ≡ []
  unfolding param_step
  param-none path = no-rows (seek_words.has_slash path) (length path)

  -- no rows, no route
  seek-none : (n : ℕ) (path : List ℕ) → seek {K = K} n [] path ≡ None
  unfolding seek
  seek-none n [] = refl
  seek-none (suc n) (b ∷ path) = seek-none n path
  seek-none zero (b ∷ path) = rw (seek-none 0 path, param-none (b ∷ path)) (ap (λ o. seek_words.or_else o None) (seek-none _ path))

  -- a row that has ended, after all of the path was skipped
  seek-skip : (k : K) (path : List ℕ) → seek (length path) (([], k) ∷ []) path ≡ Some k
  unfolding seek
  seek-skip k [] = refl
  seek-skip k (b ∷ path) = seek-skip k path

  -- a row that has ended, and more path
  seek-more : (k : K) (b : ℕ) (path : List ℕ) → seek 0 (([], k) ∷ []) (b ∷ path) ≡ None
  unfolding seek
  seek-more k b path = seek-none 0 (b ∷ path)

  pick-rows : (c : Bool) (rows : RowsOf K) (path : List ℕ) → seek 0 (cond c rows []) path ≡ cond c (seek 0 rows path) None
  pick-rows true rows path = refl
  pick-rows false rows path = seek-none 0 path

  rest-none : (b : ℕ) (path : List ℕ) → seek_words.or_else (seek ((param_step {K = K} [] (b ∷ path)).0 - 1) (param_step {K = K} [] (b ∷ path)).1 path) None ≡ None
  rest-none b path = rw (param-none (b ∷ path)) (ap (λ o. seek_words.or_else o None) (seek-none _ path))

  -- one row that continues with a byte
  seek-byte : (x : ℕ) (t : List ℕ) (k : K) (b : ℕ) (path : List ℕ) → x < 256
      → seek 0 ((x ∷ t, k) ∷ []) (b ∷ path) ≡ cond (x == b) (seek 0 ((t, k) ∷ []) path) None
  unfolding seek
  seek-byte x t k b path h =
      let p : (x == 256) ≡ false = grind (arith, nat_tests) in
      let q : (x == 257) ≡ false = grind (arith, nat_tests) in
      rw (p, q, rest-none b path) (or-none _ ∙ pick-rows (x == b) ((t, k) ∷ []) path)

  -- of three rows at most one continues
  apart-rows : (c d e : Bool) (s t u : List ℕ) (k l m : K) (path : List ℕ) → (c ≡ true → d ≡ false) → (c ≡ true → e ≡ false) → (d ≡ true → e ≡ false)
      → seek 0 (cond c ((s, k) ∷ cond d ((t, l) ∷ cond e ((u, m) ∷ []) []) (cond e ((u, m) ∷ []) [])) (cond d ((t, l) ∷ cond e ((u, m) ∷ []) []) (cond e ((u, m) ∷ []) []))) path
      ≡ cond c (seek 0 ((s, k) ∷ []) path) (cond d (seek 0 ((t, l) ∷ []) path) (cond e (seek 0 ((u, m) ∷ []) path) None))
  apart-rows true d e s t u k l m path cd ce de = rw (cd refl, ce refl) refl
  apart-rows false true e s t u k l m path cd ce de = rw (de refl) refl
  apart-rows false false e s t u k l m path cd ce de = pick-rows e ((u, m) ∷ []) path

  -- or all of them
  same-rows : (c : Bool) (s t u : List ℕ) (k l m : K) (path : List ℕ)
      → seek 0 (cond c ((s, k) ∷ cond c ((t, l) ∷ cond c ((u, m) ∷ []) []) (cond c ((u, m) ∷ []) [])) (cond c ((t, l) ∷ cond c ((u, m) ∷ []) []) (cond c ((u, m) ∷ []) []))) path
      ≡ cond c (seek 0 ((s, k) ∷ (t, l) ∷ (u, m) ∷ []) path) None
  same-rows true s t u k l m path = refl
  same-rows false s t u k l m path = seek-none 0 path

  -- three rows that continue with the same byte
  seek-same : (x : ℕ) (s t u : List ℕ) (k l m : K) (b : ℕ) (path : List ℕ) → x < 256
      → seek 0 ((x ∷ s, k) ∷ (x ∷ t, l) ∷ (x ∷ u, m) ∷ []) (b ∷ path) ≡ cond (x == b) (seek 0 ((s, k) ∷ (t, l) ∷ (u, m) ∷ []) path) None
  unfolding seek
  seek-same x s t u k l m b path h =
      let p : (x == 256) ≡ false = grind (arith, nat_tests) in
      let q : (x == 257) ≡ false = grind (arith, nat_tests) in
      rw (p, q, rest-none b path) (or-none _ ∙ same-rows (x == b) s t u k l m path)

  -- three rows that continue with three bytes
  seek-apart : (x y z : ℕ) (s t u : List ℕ) (k l m : K) (b : ℕ) (path : List ℕ) → x < 256 → y < 256 → z < 256
      → (x == y) ≡ false → (x == z) ≡ false → (y == z) ≡ false
      → seek 0 ((x ∷ s, k) ∷ (y ∷ t, l) ∷ (z ∷ u, m) ∷ []) (b ∷ path)
      ≡ cond (x == b) (seek 0 ((s, k) ∷ []) path) (cond (y == b) (seek 0 ((t, l) ∷ []) path) (cond (z == b) (seek 0 ((u, m) ∷ []) path) None))
  unfolding seek
  seek-apart x y z s t u k l m b path h h' h'' xy xz yz =
      let p : (x == 256) ≡ false = grind (arith, nat_tests) in
      let q : (x == 257) ≡ false = grind (arith, nat_tests) in
      let p' : (y == 256) ≡ false = grind (arith, nat_tests) in
      let q' : (y == 257) ≡ false = grind (arith, nat_tests) in
      let p'' : (z == 256) ≡ false = grind (arith, nat_tests) in
      let q'' : (z == 257) ≡ false = grind (arith, nat_tests) in
      rw (p, q, p', q', p'', q'', rest-none b path)
      (or-none _ ∙ apart-rows (x == b) (y == b) (z == b) s t u k l m path (λ e. grind (arith, nat_tests, e, xy)) (λ e. grind (arith, nat_tests, e, xz)) (λ e. grind (arith, nat_tests, e, yz)))

  -- what a row that continues with these bytes finds
  abbrev after_or : Option (List ℕ) → (List ℕ → Option K) → Option K
  after_or None f = None
  after_or (Some rest) f = f rest

  seek-word : (w t : List ℕ) (k : K) (path : List ℕ) → list_all (λ x. nat_lt x 256) w ≡ true
      → seek 0 ((w ++ t, k) ∷ []) path ≡ after_or (after w path) (λ rest. seek 0 ((t, k) ∷ []) rest)
  unfolding seek
  seek-word [] t k path h = refl
  seek-word (x ∷ w) t k [] h = refl
  seek-word (x ∷ w) t k (b ∷ path) h =
      let parts = and_parts (nat_lt x 256) (list_all (λ x. nat_lt x 256) w) h in
      let low : x < 256 = grind (arith, nat_tests, parts.0) in
      seek-byte x (w ++ t) k b path low
      ∙ (elim (x == b) as (λ c. cond c (seek 0 ((w ++ t, k) ∷ []) path) None ≡ after_or (cond c (after w path) None) (λ rest. seek 0 ((t, k) ∷ []) rest)) [ true ↦ seek-word w t k path parts.1 | false ↦ refl ])

  -- a parameter takes the rest of the path
  abbrev rest_of : K → List ℕ → Option K
  rest_of k [] = None
  rest_of k (b ∷ path) = cond (has_slash (b ∷ path)) None (Some k)

  pick-rest : (k : K) (path : List ℕ) (c : Bool) →
      seek_words.or_else (seek ((cond {A = ℕ × RowsOf K} c (0, []) (suc (length path), ([], k) ∷ [])).0 - 1) (cond {A = ℕ × RowsOf K} c (0, []) (suc (length path), ([], k) ∷ [])).1 path) None
      ≡ cond c None (Some k)
  pick-rest k path true = ap (λ o. seek_words.or_else o None) (seek-none (0 - 1) path)
  pick-rest k path false =
      let n : suc (length path) - 1 ≡ length path = omega arith in
      rw (n, seek-skip k path)

  seek-rest : (k : K) (path : List ℕ) → ((i : ℕ) → get_or path i 0 < 256) → seek 0 ((256 ∷ [], k) ∷ []) path ≡ rest_of k path
  unfolding seek param_step
  seek-rest k [] small = refl
  seek-rest k (b ∷ path) small =
      let low : b < 256 = small 0 in
      let no : (256 == b) ≡ false = grind (arith, nat_tests) in
      rw (no, seek-none 0 path, slash-same path) (pick-rest k path (has_slash (b ∷ path)))

  -- which of the three routes
  abbrev by_name : K → K → K → Named → Option K
  by_name k l m charges = Some k
  by_name k l m (sheet n) = Some l
  by_name k l m (mailbox n) = Some m
  by_name k l m nothing = None

  plain-end : (k l m : K) (o : Option (List ℕ)) → after_or o (λ rest. seek 0 (([], k) ∷ []) rest) ≡ by_name k l m (charges_or o nothing)
  unfolding seek
  plain-end k l m None = refl
  plain-end k l m (Some []) = refl
  plain-end k l m (Some (x ∷ rest)) = seek-more k x rest

  rest-end : (k : K) (names : Named → Option K) (kind : List ℕ → Named) (o : Option (List ℕ)) → names nothing ≡ None → ((n : List ℕ) → names (kind n) ≡ Some k)
      → ((rest : List ℕ) → o ≡ Some rest → (i : ℕ) → get_or rest i 0 < 256) → after_or o (λ rest. seek 0 ((256 ∷ [], k) ∷ []) rest) ≡ names (segment_or_nothing kind o)
  rest-end k names kind None none some small = sym none
  rest-end k names kind (Some []) none some small = seek-rest k [] (small [] refl) ∙ sym none
  rest-end k names kind (Some (x ∷ rest)) none some small = seek-rest k (x ∷ rest) (small (x ∷ rest) refl) ∙ by (has_slash (x ∷ rest))
    where
      by : (c : Bool) → cond c None (Some k) ≡ names (cond c nothing (kind (x ∷ rest)))
      by true = sym none
      by false = sym (some (x ∷ rest))

  inner : (k l m : K) (p q r : Bool) (path : List ℕ) → (p ≡ true → q ≡ false) → (p ≡ true → r ≡ false) → (q ≡ true → r ≡ false) → ((i : ℕ) → get_or path i 0 < 256)
      → cond p (seek 0 ((codes "harges", k) ∷ []) path)
      (cond q (seek 0 ((codes "ailbox/" ++ 256 ∷ [], m) ∷ []) path) (cond r (seek 0 ((codes "imservs/" ++ 256 ∷ [], l) ∷ []) path) None))
      ≡ by_name k l m (charges_or (cond p (after (codes "harges") path) None)
      (sheet_or (cond r (after (codes "imservs/") path) None) (segment_or_nothing mailbox (cond q (after (codes "ailbox/") path) None))))
  inner k l m true q r path pq pr qr small = rw (pq refl, pr refl) (seek-word (codes "harges") [] k path refl ∙ plain-end k l m (after (codes "harges") path))
  inner k l m false true r path pq pr qr small =
      rw (qr refl) (seek-word (codes "ailbox/") (256 ∷ []) m path refl
      ∙ rest-end m (by_name k l m) mailbox (after (codes "ailbox/") path) refl (λ n. refl) (λ rest e. after-small (codes "ailbox/") path rest e small))
  inner k l m false false true path pq pr qr small =
      seek-word (codes "imservs/") (256 ∷ []) l path refl
      ∙ rest-end l (by_name k l m) sheet (after (codes "imservs/") path) refl (λ n. refl) (λ rest e. after-small (codes "imservs/") path rest e small)
      ∙ ap (by_name k l m) (sym (sheet-alone (after (codes "imservs/") path)))
  inner k l m false false false path pq pr qr small = refl

  -- the rows in the order in which a router keeps them
  three-routes : (k l m : K) (path : List ℕ) → ((i : ℕ) → get_or path i 0 < 256)
      → seek 0 ((codes "/charges", k) ∷ (codes "/mailbox/" ++ 256 ∷ [], m) ∷ (codes "/simservs/" ++ 256 ∷ [], l) ∷ []) path ≡ by_name k l m (named path)
  unfolding seek
  three-routes k l m [] small = refl
  three-routes k l m (b ∷ []) small =
      seek-same 47 (codes "charges") (codes "mailbox/" ++ 256 ∷ []) (codes "simservs/" ++ 256 ∷ []) k m l b [] (omega arith)
      ∙ (elim (47 == b) as (λ t. cond t (seek 0 ((codes "charges", k) ∷ (codes "mailbox/" ++ 256 ∷ [], m) ∷ (codes "simservs/" ++ 256 ∷ [], l) ∷ []) []) None
      ≡ by_name k l m (charges_or (cond t (after (codes "charges") []) None)
      (sheet_or (cond t (after (codes "simservs/") []) None) (segment_or_nothing mailbox (cond t (after (codes "mailbox/") []) None))))) [ true ↦ refl | false ↦ refl ])
  three-routes k l m (b ∷ c ∷ path) small =
      seek-same 47 (codes "charges") (codes "mailbox/" ++ 256 ∷ []) (codes "simservs/" ++ 256 ∷ []) k m l b (c ∷ path) (omega arith)
      ∙ (elim (47 == b) as (λ t. cond t (seek 0 ((codes "charges", k) ∷ (codes "mailbox/" ++ 256 ∷ [], m) ∷ (codes "simservs/" ++ 256 ∷ [], l) ∷ []) (c ∷ path)) None
      ≡ by_name k l m (charges_or (cond t (after (codes "charges") (c ∷ path)) None)
      (sheet_or (cond t (after (codes "simservs/") (c ∷ path)) None) (segment_or_nothing mailbox (cond t (after (codes "mailbox/") (c ∷ path)) None))))) [
        | true ↦
            seek-apart 99 109 115 (codes "harges") (codes "ailbox/" ++ 256 ∷ []) (codes "imservs/" ++ 256 ∷ []) k m l c path (omega arith) (omega arith) (omega arith) refl refl refl
            ∙ inner k l m (99 == c) (109 == c) (115 == c) path
            (λ e. grind (arith, nat_tests, e)) (λ e. grind (arith, nat_tests, e)) (λ e. grind (arith, nat_tests, e)) (λ i. small (suc (suc i)))
        | false ↦ refl
      ])

-- ---- in the terms of the definition

flip : (x y : ℕ) → (x == y) ≡ (y == x)
flip x y = by (cases_Bool (y == x))
  where
    by : ((y == x) ≡ true) ⊎ ((y == x) ≡ false) → (x == y) ≡ (y == x)
    by (inl e) = grind (arith, nat_tests, e)
    by (inr e) = grind (arith, nat_tests, e)

one_shorter : (a b : ℕ) → nat_lt (suc a) (suc b) ≡ nat_lt a b
one_shorter a b = by (cases_Bool (nat_lt a b))
  where
    by : (nat_lt a b ≡ true) ⊎ (nat_lt a b ≡ false) → nat_lt (suc a) (suc b) ≡ nat_lt a b
    by (inl e) = grind (arith, nat_tests, e)
    by (inr e) = grind (arith, nat_tests, e)

-- a byte of the prefix is tested before the others
first_byte : (short same more : Bool) (o : Option (List ℕ)) → cond short None (cond (same && more) o None) ≡ cond same (cond short None (cond more o None)) None
first_byte true true more o = refl
first_byte true false more o = refl
first_byte false true more o = refl
first_byte false false more o = refl

after_again : (front s : List ℕ) → after_text front s ≡ after front s
after_again [] s = let longer : nat_lt (length s) 0 ≡ false = grind (arith, nat_tests) in rw longer refl
after_again (p ∷ ps) [] = let shorter : nat_lt 0 (suc (length ps)) ≡ true = grind (arith, nat_tests) in rw shorter refl
after_again (p ∷ ps) (b ∷ s) =
    rw (one_shorter (length s) (length ps), flip b p)
    (first_byte (nat_lt (length s) (length ps)) (p == b) (bytes_eq (take (length ps) s) ps) (Some (drop (length ps) s))
    ∙ ap (λ (o : Option (List ℕ)). cond (p == b) o None) (after_again ps s))

whole : (w path : List ℕ) (other : Named) → cond (bytes_eq path w) charges other ≡ charges_or (after w path) other
whole [] [] other = refl
whole [] (b ∷ path) other = refl
whole (x ∷ w) [] other = refl
whole (x ∷ w) (b ∷ path) other = rw (flip b x) (by (x == b) (bytes_eq path w) (after w path) (whole w path other))
  where
    by : (c d : Bool) (o : Option (List ℕ)) → cond d charges other ≡ charges_or o other → cond (c && d) charges other ≡ charges_or (cond c o None) other
    by true d o e = e
    by false d o e = refl

abbrev route_named : Named → Option Route
route_named charges = Some route.Charges
route_named (sheet n) = Some route.Sheet
route_named (mailbox n) = Some route.Mailbox
route_named nothing = None

segment_same : (which : Route) (kind : List ℕ → Named) → ((n : List ℕ) → route_named (kind n) ≡ Some which) → (o : Option (List ℕ))
    → route_named (segment_or_nothing kind o) ≡ segment_route which o
segment_same which kind is None = refl
segment_same which kind is (Some []) = refl
segment_same which kind is (Some (b ∷ n)) = by (has_slash (b ∷ n))
  where
    by : (c : Bool) → route_named (cond c nothing (kind (b ∷ n))) ≡ cond c None (Some which)
    by true = refl
    by false = is (b ∷ n)

numbered_same : (o p : Option (List ℕ)) → route_named (sheet_or o (segment_or_nothing mailbox p)) ≡ numbered_route o p
numbered_same None p = segment_same route.Mailbox mailbox (λ n. refl) p
numbered_same (Some n) p = segment_same route.Sheet sheet (λ n. refl) (Some n)

routes_same : (path : List ℕ) → route_named (named path) ≡ route_of path
routes_same path =
    ap (λ (n : Named). route_named n)
    (sym (whole (codes "/charges") path (sheet_or (after (codes "/simservs/") path) (segment_or_nothing mailbox (after (codes "/mailbox/") path)))))
    ∙ by (bytes_eq path (codes "/charges"))
    ∙ ap (λ (o : Option (List ℕ)). cond (bytes_eq path (codes "/charges")) (Some route.Charges) (numbered_route o (after (codes "/mailbox/") path))) (sym (after_again (codes "/simservs/") path))
    ∙ ap (λ (o : Option (List ℕ)). cond (bytes_eq path (codes "/charges")) (Some route.Charges) (numbered_route (after_text (codes "/simservs/") path) o)) (sym (after_again (codes "/mailbox/") path))
  where
    by : (c : Bool) → route_named (cond c charges (sheet_or (after (codes "/simservs/") path) (segment_or_nothing mailbox (after (codes "/mailbox/") path))))
        ≡ cond c (Some route.Charges) (numbered_route (after (codes "/simservs/") path) (after (codes "/mailbox/") path))
    by true = refl
    by false = numbered_same (after (codes "/simservs/") path) (after (codes "/mailbox/") path)

-- what is matched is the route of the definition
pub router_finds_route : (k l m : RouteOf Route) (path : List ℕ) (r : Option Route) → ((i : ℕ) → get_or path i 0 < 256) → k.value ≡ route.Charges → l.value ≡ route.Sheet → m.value ≡ route.Mailbox
    → MatchOption (seek 0 ((codes "/charges", k) ∷ (codes "/mailbox/" ++ 256 ∷ [], m) ∷ (codes "/simservs/" ++ 256 ∷ [], l) ∷ []) path) (r ≡ None) (λ found. r ≡ Some found.value) → r ≡ route_of path
router_finds_route k l m path r small one two three h = by (named path) (rw (three-routes k l m path small) at h) ∙ routes_same path
  where
    by : (n : Named) → MatchOption (by_name k l m n) (r ≡ None) (λ found. r ≡ Some found.value) → r ≡ route_named n
    by charges e = e ∙ ap (λ (v : Route). Some v) one
    by (sheet n) e = e ∙ ap (λ (v : Route). Some v) two
    by (mailbox n) e = e ∙ ap (λ (v : Route). Some v) three
    by nothing e = e
