-- The first wrong line, from the lines before a place.
use Rattle.std.proofs.Common.{◌≡◌, ◌∙◌, ap, sym, subst, refl, ℕ, ◌+◌, suc, inl, inr, List, [], ◌∷◌, ◌++◌, length, take, drop, add-one, arith, length-append}
use Rattle.std.proofs.Common.{Option, Some, None}
use Rattle.std.proofs.lemmas.List.{append-nil, take-append-drop}
use Rattle.za_text.specs.Lines.{RawLine, lines_of}
use Rattle.za_text.specs.declared.kind.TextFault.{TextFault}
use Rattle.za_lang.specs.declared.fault.Refusal.{Refusal}
use Rattle.za_lang.specs.declared.fault.Refusal.TheVariants as refusal
use Rattle.za_lang.specs.declared.version.Version.TheVariants.{Two}
use Rattle.za_lang.specs.Answers.{fault_at}
use Rattle.za_lang.specs.Documents.{words_in, end_fault}
use Rattle.za_lang.proofs.Faults.{cut_at}
use Rattle.za_expr.specs.Built.{IsBuildFault}
use Rattle.za_expr.specs.Documents.{place_with, said_with, tokens_by, tokens_in, HasLineFault, HasFirstFault}
use Rattle.za_expr.specs.Private.Keeping.{more_with, IsWrongBy}
use Rattle.za_expr.proofs.Saying.{said_more_with, tokens_more}

-- so many lines are right, and these are left
pub record AreRead (all : List RawLine) (n : ℕ) (left : List RawLine) : Type 0 where
  pub left_are : drop n all ≡ left
  pub faults : (fault : Option TextFault) → HasFirstFault (take n all) left fault → HasFirstFault [] all fault
  pub size : length (take n all) ≡ n

pub begins : (all : List RawLine) → AreRead all 0 all
begins all = record { left_are = refl; faults = λ fault h. h; size = refl }

-- a right line
pub goes_on : (all : List RawLine) (n m : ℕ) (left : List RawLine) (line : RawLine) (rest : List RawLine) → AreRead all n left → left ≡ line ∷ rest →
    HasLineFault (said_with (take n all)) line None → m ≡ n + 1 →
    AreRead all m rest
    × (said_with (take m all) ≡ more_with (said_with (take n all)) (words_in Two line))
    × (tokens_in (take m all) ≡ tokens_in (take n all) ++ tokens_by (words_in Two line))
goes_on all n m left line rest h e right step =
    let cut = cut_at all n line rest (h.left_are ∙ e) in
    let one : m ≡ suc n = step ∙ add-one n in
    let before : take m all ≡ take n all ++ line ∷ [] = rw one cut.1 in (
      record {
        left_are = rw one cut.0;
        faults = λ fault more. h.faults fault
            (subst (λ ls. HasFirstFault (take n all) ls fault) (sym e) (inr (right, subst (λ ls. HasFirstFault ls rest fault) before more)));
        size = rw before (omega (arith, length-append (take n all) (line ∷ []), h.size));
      },
      ap said_with before ∙ said_more_with (take n all) line,
      ap tokens_in before ∙ tokens_more (take n all) line,
    )

-- no line is left
pub ends : (all : List RawLine) (n : ℕ) (left : List RawLine) → AreRead all n left → left ≡ [] →
    ((fault : Option TextFault) → fault ≡ end_fault (place_with (take n all)) n → HasFirstFault [] all fault) × (take n all ≡ all)
ends all n left h e =
    let split : take n all ++ drop n all ≡ all = take-append-drop n all in
    let none : drop n all ≡ [] = h.left_are ∙ e in
    let whole : take n all ≡ all = sym (append-nil (take n all)) ∙ (rw none at split) in (
      λ fault is. h.faults fault (subst (λ ls. HasFirstFault (take n all) ls fault) (sym e) (is ∙ ap (end_fault (place_with (take n all))) (sym h.size))),
      whole,
    )

-- a wrong line
pub stops : (bytes : List ℕ) (n number : ℕ) (left : List RawLine) (line : RawLine) (rest : List RawLine) → AreRead (lines_of bytes) n left →
    left ≡ line ∷ rest →
    number ≡ n + 1 → (why : Refusal) → IsWrongBy (HasLineFault (said_with (take n (lines_of bytes))) line) why → IsBuildFault bytes (fault_at number why)
stops bytes n number left line rest h e is refusal.OutOfMemory wrong = tt
stops bytes n number left line rest h e is (refusal.Wrong kind) wrong =
    let before = take n (lines_of bytes) in
    let at : number ≡ length before + 1 = is ∙ ap (λ k. k + 1) (sym h.size) in
    let fault : Option TextFault = Some (record { line = number; kind = kind }) in
    h.faults fault (subst (λ ls. HasFirstFault before ls fault) (sym e)
    (inl (record { kind = kind; wrong = wrong; here = ap (λ k. Some (record { line = k; kind = kind })) at })))
