use Rattle.std.proofs.Common.{refl, ap, ◌∙◌, ◌++◌, ◌∷◌, []}
use Rattle.std.specs.Prelude.{Some, option_map, length}
use Rattle.std.specs.List.{find}
use Rattle.mmtel_transaction.specs.declared.message_class.MessageClass.TheVariants.{Fresh}
use Rattle.mmtel_transaction.specs.Heads.{head_of, is_cancel}
use Rattle.mmtel_transaction.specs.Changes.{new_server_entry}
use Rattle.mmtel_transaction.specs.Operations.{DidHear, live, openings}
use Rattle.mmtel_transaction.specs.Results.{opening_result, key_of, is_invite_of}
use Rattle.mmtel_transaction.proofs.Representation.{cancels, kept_few, represents_open}
use Rattle.mmtel_transaction.proofs.transactions.Transactions.hear_fresh.Goals as goal

pub returns-clause-done : goal.returns-clause-done
returns-clause-done g c q h room st taken =
    let old = c.args.self.now in (
      represents_open (DidHear c.args.peer c.args.message c.args.now Fresh) h c.args.self.now _ (λ s i k. new_server_entry s k c.args.peer (head_of c.args.message) c.args.now) st room
          (taken, st.run) st.send_count c.saturating_add-self.ensures refl
          (c.in_ok-push.ensures.ok ∙ ap (λ e. c.args.self.now.entries ++ e ∷ []) (c.new_server_entry.ensures ∙ ap (λ m. new_server_entry old.step old.next c.args.peer m c.args.now) q))
          refl refl (λ e. refl),
      ap Some (c.opening_result.ensures
          ∙ (ap (λ b. opening_result b old.next c.cancelled_key-invite.result c.args.message) (c.is_cancel-is_cancel.ensures ∙ ap is_cancel q)
          ∙ (ap (λ k. opening_result (is_cancel (head_of c.args.message)) k c.cancelled_key-invite.result c.args.message) (st.next ∙ kept_few (length (openings h)) room)
          ∙ cancels (is_cancel (head_of c.args.message)) (length (openings h)) c.cancelled_key-invite.result (option_map key_of (find (is_invite_of (head_of c.args.message)) (live h))) c.args.message
          (λ t. c.cancelled_key-invite.ensures (ap is_cancel q ∙ t)
          ∙ (ap (λ es. option_map key_of (find (is_invite_of c.args.head) es)) st.entries
          ∙ ap (λ m. option_map key_of (find (is_invite_of m) (live h))) q))))),
    )
