-- Scripts to which letters are appended.
use Rattle.std.proofs.Common.{◌≡◌, ◌≢◌, ℕ, zero, suc, ◌+◌, ◌<◌, ◌≤◌, true, List, [], ◌∷◌, ◌++◌, length, replicate, refl, sym, ap, subst, ◌∙◌, arith, inl, inr}
use Rattle.std.proofs.Common.{append_assoc, length-append, set, length-set, get_or-set_other, get_or-set_same}
use Rattle.std.specs.Prelude.{All}
use Rattle.std.proofs.lemmas.Bool.{cases_eq}
use Rattle.std.proofs.lemmas.List.{append-nil, length-replicate}
use Rattle.std.proofs.lemmas.List.Elements.{All-nil, All-cons, All-append}
use Rattle.za_alpha.specs.Words.{has}
use Rattle.za_alpha.specs.Alphabet.{DistributedAlphabet, loc_of}
use Rattle.za_script.specs.Limits.{most_script_letters}
use Rattle.za_script.specs.ScriptLists.{script_of, total_of, AreScripts, IsLetterOf, FitAlphabet}
use Rattle.za_script.proofs.Totals.{total_of-append, AreScripts-append}
use Rattle.za_lang.specs.Gathering.{AreAdded}

pub all_run : (P : ℕ → Type 0) (n a : ℕ) → P a → All P (replicate n a)
all_run P zero a h = All-nil P
all_run P (suc n) a h = All-cons P a (replicate n a) h (all_run P n a h)

-- so many of a letter more
pub added_run : (alphabet : DistributedAlphabet) (old new : List (List ℕ)) (p a count : ℕ) → p < length old → AreScripts old →
    total_of old + count ≤ most_script_letters →
    a < length alphabet.letters → has (loc_of alphabet a) p ≡ true →
    new ≡ set old p (script_of old p ++ replicate count a) → AreAdded alphabet old new p (replicate count a)
added_run alphabet old new p a count inside limits room known own e =
    let long : length (replicate count a) ≡ count = length-replicate count a in
    record {
      scripts = e;
      total = ap total_of e ∙ total_of-append old p (replicate count a) inside;
      own = all_run (IsLetterOf alphabet p) count a (record { letter = known; own = own });
      limits = subst AreScripts (sym e) (AreScripts-append old p (replicate count a) inside limits (omega arith));
    }

set_own : (old : List (List ℕ)) (p : ℕ) → set old p (script_of old p) ≡ old
set_own [] p = refl
set_own (s ∷ old) zero = refl
set_own (s ∷ old) (suc p) = ap (λ xs. s ∷ xs) (set_own old p)

-- no letters
pub added_none : (alphabet : DistributedAlphabet) (old : List (List ℕ)) (p : ℕ) → AreScripts old → AreAdded alphabet old old p []
added_none alphabet old p limits =
    record {
      scripts = sym (ap (set old p) (append-nil (script_of old p)) ∙ set_own old p);
      total = omega arith;
      own = All-nil (IsLetterOf alphabet p);
      limits = limits;
    }

set_twice : (old : List (List ℕ)) (p : ℕ) (x y : List ℕ) → set (set old p x) p y ≡ set old p y
set_twice [] p x y = refl
set_twice (s ∷ old) zero x y = refl
set_twice (s ∷ old) (suc p) x y = ap (λ xs. s ∷ xs) (set_twice old p x y)

-- letters after letters
pub added_more : (alphabet : DistributedAlphabet) (old mid new : List (List ℕ)) (p : ℕ) (us vs : List ℕ) → p < length old → AreAdded alphabet old mid p us →
    AreAdded alphabet mid new p vs → AreAdded alphabet old new p (us ++ vs)
added_more alphabet old mid new p us vs inside first second =
    let there : script_of mid p ≡ script_of old p ++ us = ap (λ s. script_of s p) first.scripts ∙ get_or-set_same old p (script_of old p ++ us) [] inside in
    record {
      scripts =
          second.scripts ∙ ap (λ s. set mid p (s ++ vs)) there ∙ ap (λ s. set s p ((script_of old p ++ us) ++ vs)) first.scripts
          ∙ set_twice old p (script_of old p ++ us) ((script_of old p ++ us) ++ vs)
          ∙ ap (set old p) (append_assoc (script_of old p) us vs);
      total = let a = first.total in let b = second.total in let c = length-append us vs in omega arith;
      own = All-append (IsLetterOf alphabet p) us vs first.own second.own;
      limits = second.limits;
    }

-- there are as many scripts
pub added_length : (alphabet : DistributedAlphabet) (old new : List (List ℕ)) (p : ℕ) (us : List ℕ) → AreAdded alphabet old new p us → length new ≡ length old
added_length alphabet old new p us h = ap length h.scripts ∙ length-set old p (script_of old p ++ us)

-- the script of p
pub added_same : (alphabet : DistributedAlphabet) (old new : List (List ℕ)) (p : ℕ) (us : List ℕ) → p < length old → AreAdded alphabet old new p us →
    script_of new p ≡ script_of old p ++ us
added_same alphabet old new p us inside h = ap (λ s. script_of s p) h.scripts ∙ get_or-set_same old p (script_of old p ++ us) [] inside

-- the script of another process
pub added_other : (alphabet : DistributedAlphabet) (old new : List (List ℕ)) (p q : ℕ) (us : List ℕ) → q ≢ p → AreAdded alphabet old new p us →
    script_of new q ≡ script_of old q
added_other alphabet old new p q us other h = ap (λ s. script_of s q) h.scripts ∙ get_or-set_other old p q (script_of old p ++ us) [] other

-- the scripts fit as before
pub added_fit : (alphabet : DistributedAlphabet) (old new : List (List ℕ)) (p : ℕ) (us : List ℕ) → p < length old → AreAdded alphabet old new p us →
    FitAlphabet alphabet old → FitAlphabet alphabet new
added_fit alphabet old new p us inside h fit =
    let size = added_length alphabet old new p us h in
    record {
      processes = size ∙ fit.processes;
      own = λ q k.
          let there : q < length old = omega arith in
          elim (cases_eq q p) [
            | inl e ↦
                let P : ℕ → Type 0 = λ r. All (IsLetterOf alphabet r) (script_of new r) in
                subst P (sym e) (subst (λ s. All (IsLetterOf alphabet p) s) (sym (added_same alphabet old new p us inside h))
                (All-append (IsLetterOf alphabet p) (script_of old p) us (fit.own p inside) h.own))
            | inr other ↦ subst (λ s. All (IsLetterOf alphabet q) s) (sym (added_other alphabet old new p q us other h)) (fit.own q there)
          ];
    }
