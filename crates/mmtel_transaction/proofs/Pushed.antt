-- The tables after a transaction was added, and after it was not; the empty tables.
use Rattle.std.proofs.Common.{◌≡◌, ℕ, zero, suc, ◌≤◌, ◌<◌, true, false, List, [], ◌∷◌, ◌++◌, length, refl, sym, ap, ◌∙◌, subst, arith, insert, remove}
use Rattle.std.specs.declared.cmp.Ordering.{Ordering}
use Rattle.mmtel_timers.specs.Shelves.{Has}
use Rattle.mmtel_timers.proofs.Ordered.{inserted_by_arming}
use Rattle.mmtel_transaction.specs.declared.entries.Entry.{Entry}
use Rattle.mmtel_transaction.specs.declared.match_keys.MatchKey.{MatchKey}
use Rattle.mmtel_transaction.specs.declared.match_keys.DeadlineKey.{DeadlineKey}
use Rattle.mmtel_transaction.specs.Indexes.{AreTables, call_match, client_match, match_cmp, Puts, server_match, deadline_key, deadline_cmp}
use Rattle.mmtel_transaction.proofs.Changing.{below_call, below_client, below_server, below_waits, client_more, server_more}
use Rattle.mmtel_transaction.proofs.Naming.{deadlines_total, matches_total}

pub no_tables : AreTables [] [] [] [] []
no_tables = record {
  rises = tt;
  servers = record { ascends = tt; all = λ e x h q. absurd h; only = λ x h. absurd h };
  clients = record { ascends = tt; all = λ e x h q. absurd h; only = λ x h. absurd h };
  calls = record { ascends = tt; all = λ e x h q. absurd h; only = λ x h. absurd h };
  due = record { ascends = tt; all = λ e x h q. absurd h; only = λ x h. absurd h };
  server_count = refl;
  client_count = refl;
}

undo : {X : Type 0} (p : ℕ) (y : X) (xs : List X) → p ≤ length xs → remove (insert xs p y) p ≡ xs
undo zero y xs l = refl
undo (suc p) y [] l = absurd (omega (arith, l))
undo (suc p) y (x ∷ xs) l = ap (λ zs. x ∷ zs) (undo p y xs (omega (arith, l)))

-- what was inserted and removed again
pub undone : {X : Type 0} (R : X → X → Ordering) (y : X) (p : ℕ) (xs ys zs : List X) → Puts R y p xs ys → zs ≡ remove ys p → zs ≡ xs
undone R y p xs ys zs u e = e ∙ (ap (λ l. remove l p) u.put ∙ undo p y xs u.within)

module _ (e : Entry) (es : List Entry) (ss cs ts : List MatchKey) (ds fs : List DeadlineKey) (w : DeadlineKey) (q : ℕ) (t : AreTables es ss cs ts ds) (above : (x : Entry) → Has x es → x.key < e.key)
    (is_waits : w ≡ deadline_key e) (u : Puts deadline_cmp w q ds fs) where
  put_due : Puts deadline_cmp (deadline_key e) q ds fs
  put_due = subst (λ (x : DeadlineKey). Puts deadline_cmp x q ds fs) is_waits u

  pub pushed_server : (gs hs : List MatchKey) (n c : MatchKey) (p o : ℕ) → e.is_server ≡ true → n ≡ server_match e → c ≡ call_match e → Puts match_cmp n p ss gs → Puts match_cmp c o ts hs →
      AreTables (es ++ e ∷ []) gs cs hs fs
  pushed_server gs hs n c p o kind is_name is_call v r =
      let v : Puts match_cmp (server_match e) p ss gs = subst (λ (x : MatchKey). Puts match_cmp x p ss gs) is_name v in
      let r : Puts match_cmp (call_match e) o ts hs = subst (λ (x : MatchKey). Puts match_cmp x o ts hs) is_call r in
      let tables = server_more e es ss cs ts ds t above p q o kind v.within
      (inserted_by_arming match_cmp matches_total p (server_match e) ss v.within v.parted (below_server e es ss t.servers above))
      (inserted_by_arming match_cmp matches_total o (call_match e) ts r.within r.parted (below_call e es ts t.calls above))
      (inserted_by_arming deadline_cmp deadlines_total q (deadline_key e) ds put_due.within put_due.parted (below_waits e es ds t.due above)) in
      subst (λ ys. AreTables (es ++ e ∷ []) ys cs hs fs) (sym v.put) (subst (λ ys. AreTables (es ++ e ∷ []) (insert ss p (server_match e)) cs ys fs) (sym r.put)
      (subst (λ ys. AreTables (es ++ e ∷ []) (insert ss p (server_match e)) cs (insert ts o (call_match e)) ys) (sym put_due.put) tables))

  pub pushed_client : (gs : List MatchKey) (n : MatchKey) (p : ℕ) → e.is_server ≡ false → n ≡ client_match e → Puts match_cmp n p cs gs → AreTables (es ++ e ∷ []) ss gs ts fs
  pushed_client gs n p kind is_name v =
      let v : Puts match_cmp (client_match e) p cs gs = subst (λ (x : MatchKey). Puts match_cmp x p cs gs) is_name v in
      let tables = client_more e es ss cs ts ds t above p q kind v.within
      (inserted_by_arming match_cmp matches_total p (client_match e) cs v.within v.parted (below_client e es cs t.clients above))
      (inserted_by_arming deadline_cmp deadlines_total q (deadline_key e) ds put_due.within put_due.parted (below_waits e es ds t.due above)) in
      subst (λ ys. AreTables (es ++ e ∷ []) ss ys ts fs) (sym v.put) (subst (λ ys. AreTables (es ++ e ∷ []) ss (insert cs p (client_match e)) ts ys) (sym put_due.put) tables)
