use Rattle.std.proofs.Common.{◌<◌, vec_len, ◌∙◌, arith}
use Rattle.za_script.proofs.LetterLists.{letter-of}
use Rattle.za_script.proofs.weaving.Weaving.mark_next.Goals as goal

pub index-requires : goal.index-requires
index-requires c =
    letter-of (λ a. a < vec_len c.args.self.now.sets) _ c.letters-letters.result.now (record { 0 = 0 }) c.index-place.result.now
    (c.letters-letters.ensures ∙ c.script.ensures) (omega arith) c.requires.letters

pub index_mut-requires : goal.index_mut-requires
index_mut-requires c =
    letter-of (λ a. a < vec_len c.args.self.now.sets) _ c.letters-letters.result.now (record { 0 = 0 }) c.index-place.result.now
    (c.letters-letters.ensures ∙ c.script.ensures) (omega arith) c.requires.letters
