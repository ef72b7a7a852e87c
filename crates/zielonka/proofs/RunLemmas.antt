-- What a run has done, by what was due and what was said.
use Rattle.std.proofs.Common.{◌≡◌, ℕ, ◌≤◌, true, false, List, [], Option, Some, None, refl, sym, subst, ◌∙◌, arith}
use Rattle.za_base.specs.Read.{Took}
use Rattle.za_base.specs.Ends.{Ends}
use Rattle.za_gen.specs.Generated.{generated_text}
use Rattle.zielonka.specs.Limits.{most_bytes}
use Rattle.zielonka.specs.declared.request.Request.{Request}
use Rattle.zielonka.specs.declared.request.Request.TheVariants.{Generate as AsksJob}
use Rattle.zielonka.specs.Run.{reads_bytes, ReadNothing, HasSaid, Whole, Part, IsDue, Generated, HasRun, Wrote, WriteFault}

pub said-run : (asked : Request) (old new : Ends) (status : ℕ) (text : List ℕ) {s : ℕ} → IsDue asked old new status text →
    HasSaid status text old.written new.written old.write_faults new.write_faults s → HasRun asked old new s
said-run asked old new status text due (Whole whole same) = Wrote status text due (whole, same)
said-run asked old new status text due (Part k short part rose) = WriteFault status k text due (short, part, rose)

-- what was said after nothing else was written
pub said-since : (status : ℕ) (text : List ℕ) (written mid now : Option (List ℕ)) (before at after s : ℕ) → mid ≡ written → at ≡ before →
    HasSaid status text mid now at after s → HasSaid status text written now before after s
said-since status text written mid now before at after s same stays said =
    subst (λ from. HasSaid status text from now before after s) same (subst (λ count. HasSaid status text mid now count after s) stays said)

-- what was said is a generated job
pub said-job : (asked : Request) (old new : Ends) (number : ℕ) (text : List ℕ) {s : ℕ} → asked ≡ AsksJob number → ReadNothing old new →
    text ≡ generated_text number →
    HasSaid 0 text old.written new.written old.write_faults new.write_faults s → HasRun asked old new s
said-job asked old new number text {s = s} asks nothing is said =
    said-run asked old new 0 (generated_text number) (Generated number asks nothing)
    (subst (λ (t : List ℕ). HasSaid 0 t old.written new.written old.write_faults new.write_faults s) is said)

-- a source that wasn't read has given no byte
pub took-nothing : (left : Option (List ℕ)) → Took left left (λ n. n ≤ most_bytes)
took-nothing None = ([], (tt, omega arith))
took-nothing (Some bytes) = ([], (refl, omega arith))

-- what is asked of bytes reads them
pub reads-unread : (asked : Request) {A : Type 0} → reads_bytes asked ≡ true → reads_bytes asked ≡ false → A
reads-unread asked reads unread = let both : true ≡ false = sym reads ∙ unread in absurd (cc)

-- what was done is told of what is asked alone
pub run-moves : (asked other : Request) (old new : Ends) (status : ℕ) → asked ≡ other → HasRun asked old new status → HasRun other old new status
run-moves asked other old new status e h = subst (λ a. HasRun a old new status) e h
