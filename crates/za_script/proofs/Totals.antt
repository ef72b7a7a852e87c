-- How many letters there are in all scripts together.
use Rattle.std.proofs.Common.{◌≡◌, ◌≢◌, ℕ, zero, suc, ◌+◌, ◌<◌, ◌≤◌, inl, inr, List, [], ◌++◌, length, replicate, refl, sym, ap, ◌∙◌, arith, length-append, set}
use Rattle.std.proofs.Common.{length-set, get_or-set_other, get_or-set_same}
use Rattle.std.proofs.lemmas.Bool.{cases_eq}
use Rattle.std.proofs.lemmas.List.{get_or-replicate, length-replicate}
use Rattle.za_script.specs.Scripts.{total}
use Rattle.za_alpha.specs.Limits.{most_processes}
use Rattle.za_script.specs.Limits.{most_script_letters}
use Rattle.za_script.specs.ScriptLists.{script_of, total_of, AreScripts}

-- scripts of the same lengths have as many letters
pub total-same : (f g : ℕ → List ℕ) (n : ℕ) → ((p : ℕ) → p < n → length (f p) ≡ length (g p)) → total f n ≡ total g n
total-same f g zero h = refl
total-same f g (suc n) h = let a = total-same f g n (λ p l. h p (omega arith)) in let b = h n (omega arith) in omega arith

-- no script is longer than all together
pub length-le-total : (f : ℕ → List ℕ) (n p : ℕ) → p < n → length (f p) ≤ total f n
length-le-total f zero p l = absurd (omega arith)
length-le-total f (suc n) p l =
    elim (cases_eq p n) [
      | inl e ↦ let k = ap (λ q. length (f q)) e in omega arith
      | inr ne ↦ let k = length-le-total f n p (omega arith) in omega arith
    ]

-- one script that is longer by some letters makes so many letters more
pub total-longer : (f g : ℕ → List ℕ) (n p more : ℕ) → p < n → length (g p) ≡ length (f p) + more → ((q : ℕ) → q ≢ p → length (g q) ≡ length (f q)) →
    total g n ≡ total f n + more
total-longer f g zero p more l longer same = absurd (omega arith)
total-longer f g (suc n) p more l longer same =
    elim (cases_eq p n) [
      | inl e ↦
          let k = ap (λ q. length (f q)) e in
          let m = ap (λ q. length (g q)) e in
          let r = total-same g f n (λ q b. same q (omega arith)) in omega arith
      | inr ne ↦ let k = total-longer f g n p more (omega arith) longer same in let s = same n (λ e. ne (sym e)) in omega arith
    ]

-- appending letters to a script makes so many letters more
pub total_of-append : (scripts : List (List ℕ)) (p : ℕ) (w : List ℕ) → p < length scripts →
    total_of (set scripts p (script_of scripts p ++ w)) ≡ total_of scripts + length w
total_of-append scripts p w l =
    let longer = script_of scripts p ++ w in
    let same : length (set scripts p longer) ≡ length scripts = length-set scripts p longer in
    ap (λ n. total (script_of (set scripts p longer)) n) same
    ∙ total-longer (script_of scripts) (script_of (set scripts p longer)) (length scripts) p (length w) l
    (ap length (get_or-set_same scripts p longer [] l) ∙ length-append (script_of scripts p) w)
    (λ q ne. ap length (get_or-set_other scripts p q longer [] ne))

-- empty scripts have no letters
total-none : (f : ℕ → List ℕ) (n : ℕ) → ((p : ℕ) → p < n → length (f p) ≡ 0) → total f n ≡ 0
total-none f zero h = refl
total-none f (suc n) h = let a = total-none f n (λ p l. h p (omega arith)) in let b = h n (omega arith) in omega arith

pub total_of-empty : (n : ℕ) → total_of (replicate n []) ≡ 0
total_of-empty n = total-none (script_of (replicate n [])) (length (replicate n []))
    (λ p l. ap length (get_or-replicate n p [] [] (let e = length-replicate {A = List ℕ} n [] in omega (arith, l))))

-- scripts keep the limits with some letters more, where there is room for these
pub AreScripts-append : (scripts : List (List ℕ)) (p : ℕ) (w : List ℕ) → p < length scripts → AreScripts scripts →
    total_of scripts + length w ≤ most_script_letters → AreScripts (set scripts p (script_of scripts p ++ w))
AreScripts-append scripts p w l limits room =
    let some = limits.some_process in
    let few = limits.few_processes in
    let more = total_of-append scripts p w l in
    let same = length-set scripts p (script_of scripts p ++ w) in
    record { some_process = omega arith; few_processes = omega arith; few_letters = omega arith }

-- empty scripts of some processes keep the limits
pub AreScripts-empty : (n : ℕ) → 0 < n → n ≤ most_processes → AreScripts (replicate n [])
AreScripts-empty n some few =
    let none = total_of-empty n in
    let size = length-replicate {A = List ℕ} n [] in
    record { some_process = omega arith; few_processes = omega arith; few_letters = omega arith }
