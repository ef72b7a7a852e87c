-- Among some processes, one that knows the latest event of a process that each of them knows.
use Rattle.std.proofs.Common.{◌≡◌, ℕ, ◌<◌, ◌≤◌, Bool, true, false, ◌&&◌, ◌⊎◌, inl, inr, List, [], ◌∷◌, Option, Some, None, refl, sym, subst, ◌∙◌, arith}
use Rattle.std.specs.Option.{option_map_or}
use Rattle.std.proofs.lemmas.Bool.{cases_Bool, cases_lt, and_parts, and_from}
use Rattle.za_alpha.specs.Words.{has}
use Rattle.za_alpha.specs.Search.{least}
use Rattle.za_order.specs.Views.{in_view}
use Rattle.za_order.specs.Entries.{primary}
use Rattle.za_order.specs.Locals.{knows_latest, best}
use Rattle.za_order.proofs.Options.{option-cases}
use Rattle.za_order.proofs.Sets.{has-cases, has-here, has-there}
use Rattle.za_order.proofs.Chains.{chain-same}
use Rattle.za_order.proofs.Views.{view-down}
use Rattle.za_order.proofs.Entries.{primary-sound, primary-some}
use Rattle.za_alpha.proofs.Least.{least-true, least-le}
use Rattle.za_order.proofs.Lists.{all-from, all-at}

-- b is one of xs, and knows the latest event of q that each of xs knows
pub record IsNewest (who : ℕ → List ℕ) (n : ℕ) (xs : List ℕ) (q b : ℕ) : Type 0 where
  pub among : has xs b ≡ true
  pub knows : (y e : ℕ) → has xs y ≡ true → primary who n y q ≡ Some e → in_view who n (b ∷ []) e ≡ true

-- and is the least such
pub record IsLeastNewest (who : ℕ → List ℕ) (n : ℕ) (xs : List ℕ) (q b : ℕ) : Type 0 where
  pub newest : IsNewest who n xs q b
  pub least : (x : ℕ) → IsNewest who n xs q x → b ≤ x

-- zs are the processes xs, and y
pub record IsMore (xs : List ℕ) (y : ℕ) (zs : List ℕ) : Type 0 where
  pub here : has zs y ≡ true
  pub there : (x : ℕ) → has xs x ≡ true → has zs x ≡ true
  pub only : (x : ℕ) → has zs x ≡ true → (x ≡ y) ⊎ (has xs x ≡ true)

module _ (who : ℕ → List ℕ) (n : ℕ) where
  -- of one process it is that one
  pub newest-single : (y q : ℕ) → IsNewest who n (y ∷ []) q y
  newest-single y q = record {
    among = has-here y y [] refl;
    knows = λ u e h l. elim (has-cases y u [] h) [
      | inl s ↦ (primary-sound who n y q e (subst (λ v. primary who n v q ≡ Some e) (sym s) l)).known
      | inr r ↦ cc
    ];
  }

  -- of one process more it stays, where it knows that one's latest event
  pub newest-stays : (xs : List ℕ) (y : ℕ) (zs : List ℕ) (q b : ℕ) → IsMore xs y zs → IsNewest who n xs q b →
      ((e : ℕ) → primary who n y q ≡ Some e → in_view who n (b ∷ []) e ≡ true) → IsNewest who n zs q b
  newest-stays xs y zs q b more k h = record {
    among = more.there b k.among;
    knows = λ u e t l. elim (more.only u t) [
      | inl s ↦ h e (subst (λ v. primary who n v q ≡ Some e) s l)
      | inr r ↦ k.knows u e r l
    ];
  }

  -- and it is the new one, where it does not
  pub newest-moves : (xs : List ℕ) (y : ℕ) (zs : List ℕ) (q b e : ℕ) → IsMore xs y zs → IsNewest who n xs q b →
      primary who n y q ≡ Some e → in_view who n (b ∷ []) e ≡ false → IsNewest who n zs q y
  newest-moves xs y zs q b e more k l miss =
      let own = primary-sound who n y q e l in
      record {
        among = more.here;
        knows = λ u f t m. elim (more.only u t) [
          | inl s ↦ (primary-sound who n y q f (subst (λ v. primary who n v q ≡ Some f) s m)).known
          | inr r ↦
              let other = primary-sound who n u q f m in
              elim (cases_lt f e) [
                | inl lt ↦ view-down who n (y ∷ []) f e own.known (chain-same who q f e (omega arith) other.takes own.takes)
                | inr le ↦ absurd (let z = view-down who n (b ∷ []) e f (k.knows u f r m) (chain-same who q e f le own.takes other.takes) in cc)
              ]
        ];
      }

  -- there is one
  pub newest-some : (xs : List ℕ) (q x : ℕ) → has xs x ≡ true → (b : ℕ) × IsNewest who n xs q b
  newest-some [] q x h = cc
  newest-some (y ∷ []) q x h = (y, newest-single y q)
  newest-some (y ∷ (z ∷ zs)) q x h =
      let rest = newest-some (z ∷ zs) q z (has-here z z zs refl) in
      let more : IsMore (z ∷ zs) y (y ∷ (z ∷ zs)) = record {
        here = has-here y y (z ∷ zs) refl;
        there = λ u t. has-there y u (z ∷ zs) t;
        only = λ u t. elim (has-cases y u (z ∷ zs) t) [ inl s ↦ inl (sym s) | inr r ↦ inr r ];
      } in
      let keep : ((e : ℕ) → primary who n y q ≡ Some e → in_view who n (rest.0 ∷ []) e ≡ true) → (b : ℕ) × IsNewest who n (y ∷ (z ∷ zs)) q b =
      λ k. (rest.0, newest-stays (z ∷ zs) y (y ∷ (z ∷ zs)) q rest.0 more rest.1 k) in
      elim (option-cases (primary who n y q)) [
        | inl none ↦ keep (λ e l. let c : None ≡ Some e = sym none ∙ l in cc)
        | inr one ↦ elim (cases_Bool (in_view who n (rest.0 ∷ []) one.0)) [
          | inl seen ↦ keep (λ e l. let c : Some one.0 ≡ Some e = sym one.1 ∙ l in let same : one.0 ≡ e = cc in
              subst (λ v. in_view who n (rest.0 ∷ []) v ≡ true) same seen)
          | inr miss ↦ (y, newest-moves (z ∷ zs) y (y ∷ (z ∷ zs)) q rest.0 one.0 more rest.1 one.1 miss)
        ]
      ]

  -- the same of the least, where the one more is above all others
  pub least-single : (y q : ℕ) → IsLeastNewest who n (y ∷ []) q y
  least-single y q = record {
    newest = newest-single y q;
    least = λ x k. elim (has-cases y x [] k.among) [ inl s ↦ omega arith | inr r ↦ cc ];
  }

  pub least-stays : (xs : List ℕ) (y : ℕ) (zs : List ℕ) (q b : ℕ) → IsMore xs y zs → ((x : ℕ) → has xs x ≡ true → x < y) → IsLeastNewest who n xs q b →
      ((e : ℕ) → primary who n y q ≡ Some e → in_view who n (b ∷ []) e ≡ true) → IsLeastNewest who n zs q b
  least-stays xs y zs q b more above k h = record {
    newest = newest-stays xs y zs q b more k.newest h;
    least = λ x m. elim (more.only x m.among) [
      | inl s ↦ let l = above b k.newest.among in omega arith
      | inr r ↦ k.least x (record { among = r; knows = λ u e t l. m.knows u e (more.there u t) l })
    ];
  }

  pub least-moves : (xs : List ℕ) (y : ℕ) (zs : List ℕ) (q b e : ℕ) → IsMore xs y zs → IsLeastNewest who n xs q b →
      primary who n y q ≡ Some e → in_view who n (b ∷ []) e ≡ false → IsLeastNewest who n zs q y
  least-moves xs y zs q b e more k l miss =
      let own = primary-sound who n y q e l in
      record {
        newest = newest-moves xs y zs q b e more k.newest l miss;
        least = λ x m. elim (more.only x m.among) [
          | inl s ↦ omega arith
          | inr r ↦
              let f = primary-some who n x q e (m.knows y e more.here l) own.takes in
              let last = primary-sound who n x q f.0 f.1 in
              let le = last.last e (m.knows y e more.here l) own.takes in
              absurd (let z = view-down who n (b ∷ []) e f.0 (k.newest.knows x f.0 r f.1) (chain-same who q e f.0 le own.takes last.takes) in cc)
        ];
      }

  -- the test by views
  pub knows-from : (xs : List ℕ) (q x : ℕ) → has xs x ≡ true → knows_latest who n xs q x ≡ true → IsNewest who n xs q x
  knows-from xs q x h k = record {
    among = h;
    knows = λ y e t l.
        let a = all-at (λ y. option_map_or (λ e. in_view who n (x ∷ []) e) (primary who n y q) true) xs y k t in
        subst (λ o. option_map_or (λ e. in_view who n (x ∷ []) e) o true ≡ true) l a;
  }

  pub knows-to : (xs : List ℕ) (q x : ℕ) → IsNewest who n xs q x → knows_latest who n xs q x ≡ true
  knows-to xs q x k =
      all-from (λ y. option_map_or (λ e. in_view who n (x ∷ []) e) (primary who n y q) true) xs (λ y t. none-or (primary who n y q) (λ e l. k.knows y e t l))
    where
      none-or : (o : Option ℕ) → ((e : ℕ) → o ≡ Some e → in_view who n (x ∷ []) e ≡ true) → option_map_or (λ e. in_view who n (x ∷ []) e) o true ≡ true
      none-or None h = refl
      none-or (Some e) h = h e refl

  -- the best is a newest, where there is one below the number of processes
  pub best-newest : (processes : ℕ) (xs : List ℕ) (q x : ℕ) → x < processes → IsNewest who n xs q x → IsNewest who n xs q (best who processes n xs q)
  best-newest processes xs q x l k =
      let test : ℕ → Bool = λ x. has xs x && knows_latest who n xs q x in
      let le = least-le test processes x (and_from (has xs x) (knows_latest who n xs q x) k.among (knows-to xs q x k)) in
      let b : ℕ = least test processes in
      let p = and_parts (has xs b) (knows_latest who n xs q b) (least-true test processes (omega arith)) in
      knows-from xs q b p.0 p.1

  -- and it is the least
  pub best-least : (processes : ℕ) (xs : List ℕ) (q b : ℕ) → b < processes → IsLeastNewest who n xs q b → best who processes n xs q ≡ b
  best-least processes xs q b l k =
      let test : ℕ → Bool = λ x. has xs x && knows_latest who n xs q x in
      let le = least-le test processes b (and_from (has xs b) (knows_latest who n xs q b) k.newest.among (knows-to xs q b k.newest)) in
      let ge = k.least (best who processes n xs q) (best-newest processes xs q b l k.newest) in
      omega arith
