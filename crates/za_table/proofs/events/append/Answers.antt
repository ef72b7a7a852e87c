use Rattle.std.proofs.Common.{◌≡◌, ℕ, ap, subst, ◌∙◌, [], ◌∷◌, ◌++◌, List, length}
use Rattle.std.proofs.lemmas.List.{length-map}
use Rattle.za_alpha.specs.declared.word.Letter.{Letter}
use Rattle.za_alpha.specs.Letters.{numbers}
use Rattle.za_alpha.specs.Procs.{members}
use Rattle.za_alpha.specs.Alphabet.{DistributedAlphabet, loc_of, procs_at}
use Rattle.za_dfa.specs.Tables.{CompleteDfa}
use Rattle.za_table.specs.Tables.{label_at}
use Rattle.za_table.specs.Private.Steps.{HasAppended}
use Rattle.za_table.proofs.events.append.Goals as goal
use Rattle.za_table.proofs.events.append.Goals.{After-loc-participants}

own : (c : After-loc-participants) → members c.loc-participants.result ≡ loc_of c.args.shared.now.dfa.alphabet c.args.a.0
own c = ap members (c.loc-participants.ensures ∙ ap (λ (al : DistributedAlphabet). procs_at al.letters c.args.a.0)
    (c.alphabet.ensures ∙ ap (λ (d : CompleteDfa). d.alphabet) (c.dfa.ensures.value ∙ c.closed.ensures.value)))

pub returns-clause-appended : goal.returns-clause-appended
returns-clause-appended c =
    let k = (goal.at.returns-clause-appended c).After-loc-participants in
    let p = c.args.progress.now in
    let d = c.args.shared.now.dfa in
    let w = numbers p.journal.items in
    let label : c.latest_label-label.result ≡ label_at d (w ++ c.args.a.0 ∷ []) (length p.journal.items) =
    c.latest_label-label.ensures w c.requires.locals ∙ ap (label_at d (w ++ c.args.a.0 ∷ [])) (length-map p.journal.items (λ (l : Letter). l.0)) in
    subst (λ (l : ℕ). HasAppended p c.append.new.self c.args.a.0 l (loc_of d.alphabet c.args.a.0)) label
    (subst (λ (ps : List ℕ). HasAppended p c.append.new.self c.args.a.0 c.latest_label-label.result ps) (own k) c.append.ensures.appended)
