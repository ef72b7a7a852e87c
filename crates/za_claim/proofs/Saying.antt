-- What lines and one more say of a claim, and where its reader has come to.
use Rattle.std.proofs.Common.{◌≡◌, ℕ, ◌+◌, ◌<◌, List, [], ◌∷◌, ◌++◌, length, Some, None, refl, sym, ap, subst, ◌∙◌, append_assoc, length-append, arith}
use Rattle.std.specs.Option.{option_or, option_map}
use Rattle.std.proofs.lemmas.List.{append-nil, map-append}
use Rattle.std.proofs.lemmas.List.Sums.{fold-append}
use Rattle.std.proofs.lemmas.List.Concat.{flat_map-append}
use Rattle.std.proofs.lemmas.List.Elements.{All-nil, All-cons, All-append}
use Rattle.za_text.specs.Lines.{RawLine}
use Rattle.za_alpha.specs.Alphabet.{DistributedAlphabet}
use Rattle.za_alpha.specs.Words.{IsWord}
use Rattle.za_script.specs.declared.answer.Answer.TheVariants.{Stuck}
use Rattle.za_lang.specs.Answers.{fault_at, IsRefusedWith}
use Rattle.za_lang.specs.declared.version.Version.{Version}
use Rattle.za_lang.specs.Documents.{words_in, next_fault}
use Rattle.za_lang.specs.Gathering.{IsWrong}
use Rattle.za_lang.specs.declared.fault.Refusal.{Refusal}
use Rattle.za_lang.specs.declared.fault.Refusal.TheVariants.{Wrong, OutOfMemory}
use Rattle.za_claim.specs.declared.claim.Event.{Event}
use Rattle.za_claim.specs.declared.order.Place.TheVariants.{AtClaim}
use Rattle.za_claim.specs.Claims.{AreClaimedEvents, HasLabel, event_letters}
use Rattle.za_claim.specs.Grammar.{ToldClaim, told, claim_place_by, claim_place_after, answer_told_by, answer_claimed, events_by, events_in, claim_fault_at}
use Rattle.za_claim.specs.Grammar.{claim_end_fault, claim_faults_from}
use Rattle.za_claim.specs.Limits.{most_events}
use Rattle.za_claim.specs.Private.Reading.{more_claimed}

abbrev pub nothing_said : ToldClaim
nothing_said = record { place = AtClaim; answer = Stuck; events = [] }

pub said_none : (v : Version) (alphabet : DistributedAlphabet) → told v alphabet [] ≡ nothing_said
unfolding told
said_none v alphabet = refl

abbrev more_of : DistributedAlphabet → ToldClaim → List (List ℕ) → ToldClaim
more_of alphabet s ws =
    record { place = claim_place_by s.place ws; answer = answer_told_by s.answer ws; events = s.events ++ events_by alphabet ws }

more_is : (alphabet : DistributedAlphabet) (s : ToldClaim) (ws : List (List ℕ)) → more_of alphabet s ws ≡ more_claimed alphabet s ws
more_is alphabet s [] = simp append-nil
more_is alphabet s (w ∷ ws) = refl

pub said_more : (v : Version) (alphabet : DistributedAlphabet) (ls : List RawLine) (line : RawLine)
    → told v alphabet (ls ++ line ∷ []) ≡ more_claimed alphabet (told v alphabet ls) (words_in v line)
unfolding told
said_more v alphabet ls line =
    let p : claim_place_after v (ls ++ line ∷ []) ≡ claim_place_by (claim_place_after v ls) (words_in v line) = fold-append _ _ ls (line ∷ []) in
    let a : answer_claimed v (ls ++ line ∷ []) ≡ answer_told_by (answer_claimed v ls) (words_in v line) = fold-append _ _ ls (line ∷ []) in
    let e : events_in v alphabet (ls ++ line ∷ []) ≡ events_in v alphabet ls ++ events_by alphabet (words_in v line) = flat_map-append _ ls (line ∷ [])
    ∙ simp append-nil in
    rw p (rw a (rw e (more_is alphabet (told v alphabet ls) (words_in v line))))

-- what lines that have been read say, and what is left to read
pub record IsReadSo (v : Version) (alphabet : DistributedAlphabet) (first passed : ℕ) (all left : List RawLine) (s : ToldClaim) : Type 0 where
  pub before : List RawLine
  pub split : all ≡ before ++ left
  pub count : passed ≡ first + length before
  pub faults : claim_faults_from v alphabet first [] all ≡ claim_faults_from v alphabet first before left
  pub says : s ≡ told v alphabet before

pub reads-first : (v : Version) (alphabet : DistributedAlphabet) (first : ℕ) (all : List RawLine) → IsReadSo v alphabet first first all all nothing_said
reads-first v alphabet first all = record { before = []; split = refl; count = omega arith; faults = refl; says = sym (said_none v alphabet) }

module _ {v : Version} {alphabet : DistributedAlphabet} {first passed : ℕ} {all left : List RawLine} {s : ToldClaim}
    (r : IsReadSo v alphabet first passed all left s)
    (line : RawLine) (rest : List RawLine) (e : left ≡ line ∷ rest) where
  at-line : claim_faults_from v alphabet first [] all ≡ claim_faults_from v alphabet first r.before (line ∷ rest)
  at-line = r.faults ∙ ap (claim_faults_from v alphabet first r.before) e

  -- a right line
  pub reads-on : (k : ℕ) (t : ToldClaim) → k ≡ passed + 1 → claim_fault_at v alphabet s line ≡ None → t ≡ more_claimed alphabet s (words_in v line)
      → IsReadSo v alphabet first k all rest t
  reads-on k t step right is =
      let c = r.count in
      let n = length-append r.before (line ∷ []) in
      let later = claim_faults_from v alphabet first (r.before ++ line ∷ []) rest in
      let none : claim_fault_at v alphabet (told v alphabet r.before) line ≡ None = ap (λ x. claim_fault_at v alphabet x line) (sym r.says) ∙ right in
      record {
        before = r.before ++ line ∷ [];
        split = r.split ∙ ap (λ x. r.before ++ x) e ∙ sym (append_assoc r.before (line ∷ []) rest);
        count = omega arith;
        faults = at-line ∙ ap (λ o. option_or (option_map (next_fault (first + length r.before)) o) later) none;
        says = is ∙ ap (λ x. more_claimed alphabet x (words_in v line)) r.says ∙ sym (said_more v alphabet r.before line);
      }

  -- a wrong one
  pub reads-wrong : (number : ℕ) (refusal : Refusal) → number ≡ passed + 1 → IsWrong (claim_fault_at v alphabet s line) refusal
      → IsRefusedWith (claim_faults_from v alphabet first [] all) (fault_at number refusal)
  reads-wrong number (Wrong kind) step wrong =
      let c = r.count in
      let later = claim_faults_from v alphabet first (r.before ++ line ∷ []) rest in
      let some : claim_fault_at v alphabet (told v alphabet r.before) line ≡ Some kind = ap (λ x. claim_fault_at v alphabet x line) (sym r.says) ∙ wrong in
      let there : first + length r.before + 1 ≡ number = omega arith in
      at-line ∙ ap (λ o. option_or (option_map (next_fault (first + length r.before)) o) later) some
      ∙ ap (λ n. Some (record { line = n; kind = kind })) there
  reads-wrong number OutOfMemory step wrong = tt

-- the end of the text
module _ {v : Version} {alphabet : DistributedAlphabet} {first passed : ℕ} {all left : List RawLine} {s : ToldClaim}
    (r : IsReadSo v alphabet first passed all left s)
    (e : left ≡ []) where
  pub all-read : all ≡ r.before
  all-read = r.split ∙ ap (λ x. r.before ++ x) e ∙ append-nil r.before

  pub reads-end : claim_faults_from v alphabet first [] all ≡ claim_end_fault s.place passed
  reads-end =
      r.faults ∙ ap (claim_faults_from v alphabet first r.before) e ∙ ap (λ n. claim_end_fault (told v alphabet r.before).place n) (sym r.count)
      ∙ ap (λ (x : ToldClaim). claim_end_fault x.place passed) (sym r.says)

  pub says-all : s ≡ told v alphabet all
  says-all = r.says ∙ ap (told v alphabet) (sym all-read)

pub no-events : (alphabet : DistributedAlphabet) → AreClaimedEvents alphabet []
no-events alphabet = record { short = omega arith; letters = All-nil (λ x. x < length alphabet.letters); labels = All-nil (HasLabel alphabet) }

-- one event more
pub one_event_more : (alphabet : DistributedAlphabet) (events : List Event) (e : Event) → AreClaimedEvents alphabet events
    → length events < most_events → e.letter.0 < length alphabet.letters → HasLabel alphabet e
    → AreClaimedEvents alphabet (events ++ e ∷ [])
one_event_more alphabet events e h room letter label =
    let P : ℕ → Type 0 = λ x. x < length alphabet.letters in
    let n = length-append events (e ∷ []) in
    record {
      short = omega arith;
      letters =
          subst (IsWord (length alphabet.letters)) (sym (map-append (λ (x : Event). x.letter.0) events (e ∷ [])))
          (All-append P (event_letters events) (e.letter.0 ∷ []) h.letters (All-cons P e.letter.0 [] letter (All-nil P)));
      labels = All-append (HasLabel alphabet) events (e ∷ []) h.labels (All-cons (HasLabel alphabet) e [] label (All-nil (HasLabel alphabet)));
    }
