use Rattle.std.proofs.Common.{◌≡◌, ◌∙◌, sym, ap, subst, arith}
use Rattle.za_text.specs.ProcessNames.{numbered}
use Rattle.za_alpha.specs.Alphabet.{DistributedAlphabet}
use Rattle.za_dfa.specs.Partials.{PartialDfa}
use Rattle.za_lang.specs.declared.version.Version.TheVariants.{One}
use Rattle.za_lang.specs.Limits.{FitsDocuments}
use Rattle.za_lang.specs.Namings.{IsNaming}
use Rattle.za_lang.proofs.Naming.{numbered_naming}
use Rattle.za_lang.proofs.lang.Lang.of.Goals as goal

pub invariant_of-result : goal.invariant_of-result
invariant_of-result c =
    let dfa = c.args.dfa.now in
    let n = dfa.alphabet.processes in
    let value = c.in_ok-partial.ensures.value in
    let names : c.in_ok-names.names ≡ numbered n = c.in_ok-names.ensures
    ∙ ap numbered (c.processes.ensures.value ∙ ap (λ (a : DistributedAlphabet). a.processes) c.alphabet.ensures) in
    let few = c.requires.processes in
    record {
      whole = c.in_ok-partial.ensures.whole;
      limits = subst (FitsDocuments One) (sym value)
          (record { few_processes = c.requires.processes; few_letters = c.requires.letters; few_states = c.requires.states });
      naming = subst (λ (p : PartialDfa). IsNaming (record { version = One; names = c.in_ok-names.names }) p.alphabet.processes) (sym value)
          (subst (λ ns. IsNaming (record { version = One; names = ns }) n) (sym names) (numbered_naming n (omega arith)));
    }
