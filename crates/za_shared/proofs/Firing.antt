-- A firing, from the steps that it takes.
use Rattle.std.proofs.Common.{◌≡◌, ℕ, zero, suc, ◌<◌, ◌≤◌, ◌==◌, ◌&&◌, Bool, true, false, nat_lt, List, [], ◌∷◌, ◌++◌, Some, None, length, map, slice_index}
use Rattle.std.proofs.Common.{refl, sym, ap, subst, ◌∙◌, arith, inl, inr, eqb-true, eq-eqb}
use Rattle.std.specs.Prelude.{count_by}
use Rattle.std.specs.Map.{lookup}
use Rattle.std.proofs.lemmas.Bool.{cases_Bool, cond-true, cond-false, or_cases, lt-ltb}
use Rattle.std.proofs.lemmas.List.{length-map, get_or-map}
use Rattle.lru.specs.LruCache.{promoted}
use Rattle.za_alpha.specs.Words.{has}
use Rattle.za_alpha.specs.Alphabet.{loc_of}
use Rattle.za_order.proofs.NextLetter.{word-next}
use Rattle.za_dfa.specs.Tables.{CompleteDfa, automaton_of}
use Rattle.za_local.specs.Locals.{LocalState, AreLocalsAfter, AreAllLocalsAfter, local_after}
use Rattle.za_local.proofs.Given.{locals-by-each}
use Rattle.za_local.proofs.Inputs.{few-participants}
use Rattle.za_local.proofs.LocalLaws.{others_keep_locals}
use Rattle.za_records.specs.Shelf.{Shelf, count}
use Rattle.za_cache.specs.Lines.{LineKey, line_key, is_key}
use Rattle.za_shared.specs.Holders.{no_local, value, values_at}
use Rattle.za_shared.specs.Records.{Records, AreRecords, IsTransition, IsLine, IsRemembered, HasFired, locals_of}
use Rattle.za_shared.specs.Private.Steps.{key_given, HasEntered, HasObtained, last_of}
use Rattle.za_shared.proofs.Carrying.{count-more}
use Rattle.za_shared.proofs.LineLists.{split-found, promoted-split, all-found, key-is}
use Rattle.za_shared.proofs.Locals.{local-is, participants-after}

count-at : (keys : List ℕ) (p : ℕ) → p < length keys → 0 < count_by (λ x. x == slice_index keys p) keys
count-at [] p l = absurd (omega arith)
count-at (x ∷ xs) zero l = let e = count-more (λ (y : ℕ). y == x) x xs in let o = cond-true {A = ℕ} (x == x) 1 0 (eq-eqb x x refl) in omega arith
count-at (x ∷ xs) (suc p) l = let e = count-more (λ (y : ℕ). y == slice_index xs p) x xs in let h = count-at xs p (omega arith) in omega arith

and-off : (b : Bool) → (b && false) ≡ false
and-off true = refl
and-off false = refl

-- the key of a process is live
pub key-live : (r : Records) → AreRecords r → (p : ℕ) → p < r.dfa.alphabet.processes → 0 < count r.shelf (slice_index r.keys p)
key-live r ok p l = let size = ok.keys_size in let c = count-at r.keys p (omega arith) in let q = ok.counts (slice_index r.keys p) in omega arith

has-map : (f : ℕ → ℕ) (ps : List ℕ) (k : ℕ) → has (map f ps) k ≡ true → (p : ℕ) × (has ps p ≡ true) × (f p ≡ k)
has-map f [] k h = cc
has-map f (p ∷ ps) k h = elim (or_cases (f p == k) (has (map f ps) k) h) [
  | inl e ↦ (p, Rattle.std.proofs.lemmas.Bool.or_left (p == p) (has ps p) (eq-eqb p p refl), eqb-true (f p) k e)
  | inr m ↦ let q = has-map f ps k m in (q.0, Rattle.std.proofs.lemmas.Bool.or_right (p == q.0) (has ps q.0) q.1, q.2)
]

map-twice : (f : ℕ → ℕ) (g : ℕ → LocalState) (ps : List ℕ) → map g (map f ps) ≡ map (λ p. g (f p)) ps
map-twice f g [] = refl
map-twice f g (p ∷ ps) = ap (λ xs. g (f p) ∷ xs) (map-twice f g ps)

module _ (r : Records) (ok : AreRecords r) (a : ℕ) (la : a < length r.dfa.alphabet.letters) where
  abbrev pub inputs : List ℕ
  inputs = map (λ p. slice_index r.keys p) (loc_of r.dfa.alphabet a)

  pub few-inputs : length inputs ≤ r.dfa.alphabet.processes
  few-inputs = let e = length-map (loc_of r.dfa.alphabet a) (λ p. slice_index r.keys p) in
      let f = few-participants r.dfa.alphabet ok.complete.distributed a la in omega arith

  pub input-live : (k : ℕ) → has inputs k ≡ true → 0 < count r.shelf k
  input-live k h =
      let m = has-map (λ p. slice_index r.keys p) (loc_of r.dfa.alphabet a) k h in
      subst (λ (i : ℕ). 0 < count r.shelf i) m.2 (key-live r ok m.0 (ok.complete.distributed.located.below a m.0 la m.1))

  pub input-values : map (value r.shelf) inputs ≡ values_at r.shelf r.keys (loc_of r.dfa.alphabet a)
  input-values = map-twice (λ p. slice_index r.keys p) (value r.shelf) (loc_of r.dfa.alphabet a)

  -- the output of a line
  pub line-obtained : (new : Records) (key : ℕ) → lookup (is_key a inputs) r.lines ≡ Some key → new.shelf ≡ r.shelf →
      new ≡ record r { shelf = new.shelf; own = key ∷ []; lines = promoted (is_key a inputs) r.lines } → HasObtained r new a
  line-obtained new key found same is =
      let s = split-found (is_key a inputs) r.lines key found in
      let k : s.0.key ≡ line_key a inputs = key-is a inputs s.0.key s.0.passes in
      let line : IsLine r.dfa r.shelf (line_key a inputs, key) = subst (λ l. IsLine r.dfa r.shelf l) (λ i. (k i, s.1 i))
      (all-found (is_key a inputs) (IsLine r.dfa r.shelf) r.lines s.0 ok.lines) in
      record {
        key = key;
        own = ap (λ (x : Records). x.own) is;
        dfa = ap (λ (x : Records). x.dfa) is;
        cache = ap (λ (x : Records). x.cache) is;
        keys = ap (λ (x : Records). x.keys) is;
        transition = λ w h x p. ap (λ (s : Shelf LocalState). value s key) same ∙ line.transition w
            (subst (AreLocalsAfter r.dfa w (loc_of r.dfa.alphabet a)) (sym input-values) h) x p;
        values = λ n o m. ap (λ (s : Shelf LocalState). value s n) same;
        lines = λ c. inl (
          s.0.before ++ s.0.after,
          ap (λ (x : Records). x.lines) is ∙ promoted-split (is_key a inputs) r.lines s.0
              ∙ ap (λ l. l ∷ (s.0.before ++ s.0.after)) (λ i. (k i, s.1 i)),
        );
      }

  -- a local state that was made, and entered
  module _ (s u : Records) (first : s ≡ record r { spares = s.spares })
      (made : IsTransition r.dfa a (values_at r.shelf r.keys (loc_of r.dfa.alphabet a)) (last_of s.spares)) where
    pub made-few : length inputs ≤ s.dfa.alphabet.processes
    made-few = subst (λ (x : Records). length inputs ≤ x.dfa.alphabet.processes) (sym first) few-inputs

    pub made-live : (k : ℕ) → has inputs k ≡ true → 0 < count s.shelf k
    made-live k h = subst (λ (x : Records). 0 < count x.shelf k) (sym first) (input-live k h)

    pub made-absent : lookup (is_key a inputs) r.lines ≡ None → lookup (is_key a inputs) s.lines ≡ None
    made-absent h = ap (λ (x : Records). lookup (is_key a inputs) x.lines) first ∙ h

    pub made-transition : IsTransition s.dfa a (map (value s.shelf) inputs) (last_of s.spares)
    made-transition = subst (λ (x : Records). IsTransition x.dfa a (map (value x.shelf) inputs) (last_of s.spares)) (sym first)
        (λ w h x p. made w (subst (AreLocalsAfter r.dfa w (loc_of r.dfa.alphabet a)) input-values h) x p)

    pub made-obtained : HasEntered s u a inputs → HasObtained r u a
    made-obtained second =
        let whole : u ≡ record r { shelf = u.shelf; own = u.own; lines = u.lines; spares = u.spares } =
        second.rest ∙ ap (λ (x : Records). record x { shelf = u.shelf; own = u.own; lines = u.lines; spares = u.spares }) first in
        record {
          key = second.key;
          own = second.own;
          dfa = ap (λ (x : Records). x.dfa) whole;
          cache = ap (λ (x : Records). x.cache) whole;
          keys = ap (λ (x : Records). x.keys) whole;
          transition = λ w h x p. second.is ∙ made w h x p;
          values = λ k o n. second.values k (subst (λ (x : Records). 0 < count x.shelf k) (sym first) o) n ∙ ap (λ (x : Records). value x.shelf k) first;
          lines = subst (λ (x : Records). IsRemembered x.cache x.lines u.lines a inputs second.key) first second.lines;
        }

  -- the participants have the record
  module _ (s t : Records) (key : ℕ) (first : HasObtained r s a) (own : s.own ≡ key ∷ [])
      (rest : t ≡ record s { shelf = t.shelf; own = []; keys = t.keys; spares = t.spares }) (done : AreRecords t)
      (keys : (p : ℕ) → slice_index t.keys p ≡ key_given (loc_of r.dfa.alphabet a) key (length s.keys) s.keys p)
      (values : (k : ℕ) → 0 < count t.shelf k → (0 < count s.shelf k) × (value t.shelf k ≡ value s.shelf k)) where
    same-key : key ≡ first.key
    same-key = let e : key ∷ [] ≡ first.key ∷ [] = sym own ∙ first.own in let q : key ≡ first.key = cc in q

    dfa-is : t.dfa ≡ r.dfa
    dfa-is = ap (λ (x : Records). x.dfa) rest ∙ first.dfa

    size : length s.keys ≡ r.dfa.alphabet.processes
    size = ap length first.keys ∙ ok.keys_size

    mine : (p : ℕ) → has (loc_of r.dfa.alphabet a) p ≡ true → slice_index t.keys p ≡ first.key
    mine p y =
        let l = ok.complete.distributed.located.below a p la y in
        let c : (nat_lt p (length s.keys) && has (loc_of r.dfa.alphabet a) p) ≡ true = ap (λ b. b && has (loc_of r.dfa.alphabet a) p)
        (lt-ltb p (length s.keys) (let e = size in omega arith)) ∙ y in
        keys p ∙ cond-true (nat_lt p (length s.keys) && has (loc_of r.dfa.alphabet a) p) key (slice_index s.keys p) c ∙ same-key

    others : (p : ℕ) → has (loc_of r.dfa.alphabet a) p ≡ false → slice_index t.keys p ≡ slice_index r.keys p
    others p n =
        let c : (nat_lt p (length s.keys) && has (loc_of r.dfa.alphabet a) p) ≡ false = ap (λ b. nat_lt p (length s.keys) && b) n
        ∙ and-off (nat_lt p (length s.keys)) in
        keys p ∙ cond-false (nat_lt p (length s.keys) && has (loc_of r.dfa.alphabet a) p) key (slice_index s.keys p) c
        ∙ ap (λ (ks : List ℕ). slice_index ks p) first.keys

    module _ (w : List ℕ) (h : AreAllLocalsAfter r.dfa w (locals_of r)) (p : ℕ) (l : p < r.dfa.alphabet.processes) where
      live : 0 < count t.shelf (slice_index t.keys p)
      live = key-live t done p (subst (λ (d : CompleteDfa). p < d.alphabet.processes) (sym dfa-is) l)

      each : value t.shelf (slice_index t.keys p) ≡ local_after r.dfa (w ++ a ∷ []) p
      each = elim (cases_Bool (has (loc_of r.dfa.alphabet a) p)) [
        | inl y ↦
            (values (slice_index t.keys p) live).1 ∙ ap (value s.shelf) (mine p y)
            ∙ first.transition w (participants-after r w a (loc_of r.dfa.alphabet a) refl ok refl la h) p y
        | inr n ↦
            let k = others p n in
            let v = values (slice_index t.keys p) live in
            v.1 ∙ ap (value s.shelf) k ∙ first.values (slice_index r.keys p) (key-live r ok p l) (subst (λ (i : ℕ). 0 < count s.shelf i) k v.0)
            ∙ local-is r w p ok.keys_size l h
            ∙ sym (others_keep_locals (loc_of r.dfa.alphabet) r.dfa.alphabet.processes
            (automaton_of r.dfa) w a p ok.complete.distributed.located h.word la n)
      ]

    pub fired : HasFired r t a
    fired = record {
      free = ap (λ (x : Records). x.own) rest;
      dfa = dfa-is;
      cache = ap (λ (x : Records). x.cache) rest ∙ first.cache;
      locals = λ w h. subst (λ (d : CompleteDfa). AreAllLocalsAfter d (w ++ a ∷ []) (locals_of t)) (sym dfa-is)
          (locals-by-each r.dfa (w ++ a ∷ []) (locals_of t) (word-next (length r.dfa.alphabet.letters) w a h.word la)
          (length-map t.keys (value t.shelf) ∙ done.keys_size ∙ ap (λ (d : CompleteDfa). d.alphabet.processes) dfa-is) no_local
          (λ p l. get_or-map (value t.shelf) t.keys p 0 no_local
          (let e = done.keys_size in let f = ap (λ (d : CompleteDfa). d.alphabet.processes) dfa-is in omega arith) ∙ each w h p l));
      key = first.key;
      participants = mine;
      others = others;
      lines = subst (λ (ls : List (LineKey × ℕ)). IsRemembered r.cache r.lines ls a inputs first.key) (sym (ap (λ (x : Records). x.lines) rest)) first.lines;
    }
