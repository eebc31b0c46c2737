-- The head of a message is that of the masked message.
use Rattle.std.proofs.Common.{◌≡◌, ◌==◌, ℕ, List, [], ◌∷◌, length, refl, sym, ap, ◌∙◌, Bool, true, false, Option, Some, None, codes, cond, map}
use Rattle.std.specs.Option.{option_map}
use Rattle.std.proofs.lemmas.List.{length-map}
use Rattle.mmtel_base.specs.Chain.{◌>>=◌}
use Rattle.mmtel_lex.specs.Reading.{name_addr_of}
use Rattle.mmtel_lex.specs.declared.values.NameAddr.{NameAddr}
use Rattle.mmtel_lex.specs.declared.values.Param.{Param}
use Rattle.mmtel_message.specs.Fields.{call_in, first_part, only_value, via_at}
use Rattle.mmtel_message.specs.Message.{Line, Message, lines_named}
use Rattle.mmtel_message.specs.declared.fields.Via.{Via}
use Rattle.mmtel_message.specs.declared.messages.Start.{Start}
use Rattle.mmtel_message.proofs.CanonicalTheorems.{only_kept, only_named, only_of}
use Rattle.mmtel_message.proofs.WalkTheorems.{head_value}
use Rattle.mmtel_transaction.specs.Heads.{head_of, param_text}
use Rattle.mmtel_transaction.specs.HeadsRead.{HeadsRestOnFields, tag_read}
use Rattle.mmtel_trust.specs.ParsedMessage.{ParsedMessage}
use Rattle.mmtel_trust.specs.Kinds.{kind_of}
use Rattle.mmtel_trust.specs.PrivateFields.{PrivateFields, hide_if, masked_lines, masked_value, private_fields_in, with_value}
use Rattle.mmtel_trust.proofs.ByName.{named-changed, params_hidden}
use Rattle.mmtel_trust.proofs.ParsedTheorems.{call_id_kept, cseq_kept, via_kept}
use Rattle.mmtel_trust.proofs.IndexKeeping.{first-masked, from_value, named-masked, to_value}
use Rattle.mmtel_masked_messages.specs.Heads.{EquivalentMessagesHaveOneHead, EquivalentParsedHaveOneHead, LinesKeepTheirHead, MessagesKeepTheirHead, message_of, message_of_lines}

-- ---- the tag of a party whose display name and URI are hidden

head_changed : (f : List ℕ → List ℕ) (ls : List Line) → head_value (map (with_value f) ls) ≡ option_map f (head_value ls)
head_changed f [] = refl
head_changed f (l ∷ ls) = refl

map_if : (b : Bool) (f : List ℕ → List ℕ) (o : Option (List ℕ)) → cond b (option_map f o) None ≡ option_map f (cond b o None)
map_if true f o = refl
map_if false f o = refl

only_changed : (f : List ℕ → List ℕ) (ls : List Line) → only_of (map (with_value f) ls) ≡ option_map f (only_of ls)
only_changed f ls = rw (length-map ls (with_value f), head_changed f ls) (map_if (length ls == 1) f (head_value ls))

-- the tag of a party, by its parameters
abbrev tag_with : Option (List Param) → Option (List ℕ)
tag_with o = option_map (λ (ps : List Param). param_text (codes "tag") ps) o

abbrev tag_of_party : Option NameAddr → Option (List ℕ)
tag_of_party o = option_map (λ (party : NameAddr). param_text (codes "tag") party.params) o

by_params : (o : Option NameAddr) → tag_of_party o ≡ tag_with (option_map (λ n. n.params) o)
by_params None = refl
by_params (Some n) = refl

tag_hidden : (b : Bool) (o : Option (List ℕ)) → tag_of_party (option_map (hide_if b) o >>= λ v. name_addr_of v) ≡ tag_of_party (o >>= λ v. name_addr_of v)
tag_hidden b None = refl
tag_hidden b (Some v) = by_params (name_addr_of (hide_if b v)) ∙ (ap tag_with (params_hidden b v) ∙ sym (by_params (name_addr_of v)))

tag-masked : (p : PrivateFields) (name : List ℕ) (b : Bool) (ls : List Line) → ((v : List ℕ) → masked_value p (kind_of name) v ≡ Some (hide_if b v)) → tag_read name (masked_lines p ls) ≡ tag_read name ls
tag-masked p name b ls hides =
    ap (λ (o : Option (List ℕ)). tag_of_party (o >>= λ v. name_addr_of v)) (
    only_named name (masked_lines p ls)
    ∙ (ap (λ (xs : List Line). only_of xs) (named-changed p name (hide_if b) hides ls)
    ∙ (only_changed (hide_if b) (lines_named name ls) ∙ ap (option_map (hide_if b)) (sym (only_named name ls)))))
    ∙ tag_hidden b (only_value name ls)

-- ---- the rest of a head

call-masked : (p : PrivateFields) (ls : List Line) → call_in (masked_lines p ls) ≡ call_in ls
unfolding call_in
call-masked p ls =
    rw (
      only_kept (codes "Call-ID") (masked_lines p ls) ls (named-masked p (codes "Call-ID") ls (call_id_kept p)),
      only_kept (codes "CSeq") (masked_lines p ls) ls (named-masked p (codes "CSeq") ls (cseq_kept p)),
    ) refl

-- where heads depend only on what is read of them
module _ (fields : HeadsRestOnFields) where
  pub lines_keep : LinesKeepTheirHead
  lines_keep p start ls body other = fields (message_of_lines start (masked_lines p ls) body) (message_of_lines start ls other) (record {
    start = refl;
    via = ap (λ (o : Option (List ℕ)). option_map (λ (via : Via). (param_text (codes "branch") via.params, via.sent_by)) (o >>= λ v. via_at (first_part v))) (first-masked p (codes "Via") ls (via_kept p));
    from = tag-masked p (codes "From") p.from ls (from_value p);
    to = tag-masked p (codes "To") p.to ls (to_value p);
    call = call-masked p ls;
  })

  pub messages_keep : MessagesKeepTheirHead
  messages_keep p m = lines_keep (private_fields_in m.start p) m.start m.lines m.body m.body

  pub alike : EquivalentMessagesHaveOneHead
  alike p q m n e = sym (messages_keep p m) ∙ (ap (λ (x : Message Start). head_of x) e ∙ messages_keep q n)

  pub heard_alike : EquivalentParsedHaveOneHead
  heard_alike p q m n e = alike p q (message_of m) (message_of n) (ap (λ (x : ParsedMessage). message_of x) e)
