-- The tables after a transaction was changed at its position.
use Rattle.std.proofs.Common.{◌≡◌, ℕ, zero, suc, ◌<◌, true, false, not, cond, List, [], ◌∷◌, length, get_or, set, map, sym, refl, ap, ◌∙◌, subst, arith, inl, inr, Some, None, insert, remove, Bool}
use Rattle.std.specs.Prelude.{slice_get}
use Rattle.std.specs.List.{position}
use Rattle.std.specs.declared.cmp.Ordering.TheVariants.{Equal}
use Rattle.std.proofs.lemmas.Bool.{eqb-true}
use Rattle.std.proofs.lemmas.List.Quantifiers.{position-Some}
use Rattle.std.proofs.lemmas.Option.{same_Some}
use Rattle.mmtel_timers.specs.Shelves.{Has, IsIndex, Rises}
use Rattle.mmtel_timers.proofs.Ordered.{gone, has_out_back, Place, inserted_by_arming}
use Rattle.mmtel_transaction.specs.declared.entries.Entry.{Entry}
use Rattle.mmtel_transaction.specs.declared.match_keys.MatchKey.{MatchKey}
use Rattle.mmtel_transaction.specs.declared.match_keys.DeadlineKey.{DeadlineKey}
use Rattle.mmtel_transaction.specs.Changes.{change_of_key}
use Rattle.mmtel_transaction.specs.Operations.{is_live}
use Rattle.mmtel_transaction.specs.Results.{is_of}
use Rattle.mmtel_transaction.specs.Table.{table_after_change}
use Rattle.mmtel_transaction.specs.Indexes.{AreTables, call_match, client_match, Moves, server_match, Removes, indexed_deadline, deadline_key, deadline_cmp}
use Rattle.mmtel_transaction.proofs.Changing.{client_over, due_hit, one_key, rest, server_over, set_hit, settle_over, tables_mapped, waits_key}
use Rattle.mmtel_transaction.proofs.Lists.{Keeps, keeps_hit}
use Rattle.mmtel_transaction.proofs.Naming.{deadlines_total}
use Rattle.mmtel_transaction.proofs.Places.{left_out, stays_in}

has_get : (es : List Entry) (i : ℕ) (x : Entry) → i < length es → x ≡ get_or es i x → Has x es
has_get [] i x l q = absurd (omega (arith, l))
has_get (e ∷ es) zero x l q = inl q
has_get (e ∷ es) (suc i) x l q = inr (has_get es i x (omega (arith, l)) q)

module _ (k : ℕ) (f : Entry → Entry) (keeps : (e : Entry) → Keeps e (f e)) (es : List Entry) (ds : List DeadlineKey) (rises : Rises (λ (e : Entry). e.key) es)
    (due : IsIndex indexed_deadline deadline_cmp es ds) (i : ℕ) (at : position (is_of k) es ≡ Some i) (old : Entry) (is : old ≡ get_or es i old) where
  within : i < length es
  within = (position-Some (is_of k) es i old at).0

  read_key : (get_or es i old).key ≡ k
  read_key = eqb-true (get_or es i old).key k ((position-Some (is_of k) es i old at).1)

  pub own_key : old.key ≡ k
  own_key = ap (λ (e : Entry). e.key) is ∙ read_key

  pub stands_there : Has old es
  stands_there = has_get es i old within is

  pub waits_there : Has (deadline_key old) ds
  waits_there = due.all old (deadline_key old) stands_there refl

  fresh : (x : Entry) → x ≡ f old → (p : ℕ) → slice_get ds p ≡ Some (deadline_key old) → (y : DeadlineKey) → Has y (remove ds p) → deadline_cmp y (deadline_key x) ≡ Equal → ⊥
  fresh x q p g y h e =
      let u = due.only y (has_out_back p ds y h) in
      let of_y : y ≡ deadline_key u.0 = sym (same_Some (deadline_key u.0) y u.2) in
      let of_x : x.key ≡ old.key = ap (λ (z : Entry). z.key) q ∙ (keeps old).key in
      let same : u.0.key ≡ old.key = sym (ap (λ (z : DeadlineKey). z.key) of_y) ∙ (waits_key y (deadline_key x) e ∙ of_x) in
      gone deadline_cmp deadlines_total p ds (deadline_key old) y due.ascends g h (of_y ∙ ap deadline_key (one_key es u.0 old rises u.1 stands_there same))

  pub was_set : (x : Entry) → x ≡ f old → set es i x ≡ map (change_of_key k f) es
  was_set x q = set_hit k f es i old x rises within read_key (q ∙ ap f is)

  pub due_moved : (x : Entry) (fs : List DeadlineKey) → x ≡ f old → Moves deadline_cmp (deadline_key old) (deadline_key x) ds fs → IsIndex indexed_deadline deadline_cmp (map (change_of_key k f) es) fs
  due_moved x fs q m =
      let place = inserted_by_arming deadline_cmp deadlines_total m.to (deadline_key x) (remove ds m.from) m.within m.parted (fresh x q m.from m.at) in
      let tables : IsIndex indexed_deadline deadline_cmp (map (change_of_key k f) es) (insert (remove ds m.from) m.to (deadline_key (f old))) =
      due_hit k f old es ds m.from m.to rises due stands_there own_key m.at (subst (λ (y : Entry). Place deadline_cmp deadlines_total m.to (deadline_key y) (remove ds m.from)) q place) in
      let moved : insert (remove ds m.from) m.to (deadline_key (f old)) ≡ fs = ap (λ (y : Entry). insert (remove ds m.from) m.to (deadline_key y)) (sym q) ∙ sym m.moved in
      subst (λ ys. IsIndex indexed_deadline deadline_cmp (map (change_of_key k f) es) ys) moved tables

module _ (k : ℕ) (f : Entry → Entry) (keeps : (e : Entry) → Keeps e (f e)) (es : List Entry) (ss cs ts : List MatchKey) (ds : List DeadlineKey) (t : AreTables es ss cs ts ds) (i : ℕ)
    (at : position (is_of k) es ≡ Some i) (old : Entry) (is : old ≡ get_or es i old) where
  pub changed_live : (x : Entry) (fs : List DeadlineKey) → x ≡ f old → x.is_terminated ≡ false → Moves deadline_cmp (deadline_key old) (deadline_key x) ds fs →
      AreTables (set es i x) ss cs ts fs × (set es i x ≡ table_after_change k f es)
  changed_live x fs q o m =
      let tables = tables_mapped (change_of_key k f) (λ e. keeps_hit k f e (keeps e)) es ss cs ts ds fs t (due_moved k f keeps es ds t.rises t.due i at old is x fs q m) in
      (subst (λ xs. AreTables xs ss cs ts fs) (sym (was_set k f keeps es ds t.rises t.due i at old is x q)) tables, stays_in k f es i old x (sym at) (q ∙ ap f is) o)

  there : Has old es
  there = stands_there k f keeps es ds t.rises t.due i at old is

  key : old.key ≡ k
  key = own_key k f keeps es ds t.rises t.due i at old is

  server_kept : (x : Entry) → x ≡ f old → server_match x ≡ server_match old
  server_kept x q = let w = keeps old in ap server_match q ∙ (rw (w.head, w.key) refl)

  call_kept : (x : Entry) → x ≡ f old → call_match x ≡ call_match old
  call_kept x q = let w = keeps old in ap call_match q ∙ (rw (w.head, w.key) refl)

  client_kept : (x : Entry) → x ≡ f old → client_match x ≡ client_match old
  client_kept x q = let w = keeps old in ap client_match q ∙ (rw (w.head, w.key) refl)

  kind_kept : (x : Entry) (b : Bool) → x ≡ f old → x.is_server ≡ b → old.is_server ≡ b
  kind_kept x b q s = sym ((keeps old).server) ∙ (ap (λ (e : Entry). e.is_server) (sym q) ∙ s)

  pub server_there : (x : Entry) → x ≡ f old → x.is_server ≡ true → Has (server_match x) ss
  server_there x q s = t.servers.all old (server_match x) there (ap (λ b. cond b (Some (server_match old)) None) (kind_kept x true q s) ∙ ap Some (sym (server_kept x q)))

  pub call_there : (x : Entry) → x ≡ f old → x.is_server ≡ true → Has (call_match x) ts
  call_there x q s = t.calls.all old (call_match x) there (ap (λ b. cond b (Some (call_match old)) None) (kind_kept x true q s) ∙ ap Some (sym (call_kept x q)))

  pub client_there : (x : Entry) → x ≡ f old → x.is_server ≡ false → Has (client_match x) cs
  client_there x q s = t.clients.all old (client_match x) there (ap (λ b. cond b None (Some (client_match old))) (kind_kept x false q s) ∙ ap Some (sym (client_kept x q)))

  over_rest : (x : Entry) → x ≡ f old → x.is_terminated ≡ true → (remove (set es i x) i ≡ table_after_change k f es) × (table_after_change k f es ≡ rest k es)
  over_rest x q o = (left_out k f es i old x (sym at) (q ∙ ap f is) o, settle_over k f old es t.rises there key (ap is_live (sym q) ∙ ap not o))

  pub changed_server : (x : Entry) (fs : List DeadlineKey) (gs hs : List MatchKey) → x ≡ f old → x.is_terminated ≡ true → x.is_server ≡ true → Removes (deadline_key old) ds fs →
      Removes (server_match x) ss gs → Removes (call_match x) ts hs → AreTables (remove (set es i x) i) gs cs hs fs × (remove (set es i x) i ≡ table_after_change k f es)
  changed_server x fs gs hs q o s m n c =
      let w = over_rest x q o in
      let tables = server_over k old es ss cs ts ds m.from n.from c.from t there key (kind_kept x true q s) m.at (n.at ∙ ap Some (server_kept x q)) (c.at ∙ ap Some (call_kept x q)) in (
        subst (λ xs. AreTables xs gs cs hs fs) (sym (w.0 ∙ w.1)) (subst (λ ys. AreTables (rest k es) gs cs hs ys) (sym m.removed)
            (subst (λ ys. AreTables (rest k es) ys cs hs (remove ds m.from)) (sym n.removed) (subst (λ ys. AreTables (rest k es) (remove ss n.from) cs ys (remove ds m.from)) (sym c.removed) tables))),
        w.0,
      )

  pub changed_client : (x : Entry) (fs : List DeadlineKey) (gs : List MatchKey) → x ≡ f old → x.is_terminated ≡ true → x.is_server ≡ false → Removes (deadline_key old) ds fs →
      Removes (client_match x) cs gs → AreTables (remove (set es i x) i) ss gs ts fs × (remove (set es i x) i ≡ table_after_change k f es)
  changed_client x fs gs q o s m n =
      let w = over_rest x q o in
      let tables = client_over k old es ss cs ts ds m.from n.from t there key (kind_kept x false q s) m.at (n.at ∙ ap Some (client_kept x q)) in (
        subst (λ xs. AreTables xs ss gs ts fs) (sym (w.0 ∙ w.1)) (subst (λ ys. AreTables (rest k es) ss gs ts ys) (sym m.removed) (subst (λ ys. AreTables (rest k es) ss ys ts (remove ds m.from)) (sym n.removed) tables)),
        w.0,
      )
