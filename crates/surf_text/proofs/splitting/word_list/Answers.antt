use Rattle.std.proofs.Common.{◌++◌, ◌∷◌, [], append_assoc, map, sym, ap, ◌∙◌}
use Rattle.std.proofs.lemmas.List.{map_push}
use Rattle.surf_text.proofs.splitting.word_list.Goals as goal

pub loop-word-preserved : goal.loop-word-preserved
loop-word-preserved c = record {
  so_far = rw (c.in_ok-push.ensures.items, map_push)
      (append_assoc (map (λ w. w.now) c.loop-word.found.items) (c.in-Some.word.now ∷ []) c.next_word.new.self
      ∙ ap (λ rest. map (λ w. w.now) c.loop-word.found.items ++ rest) (sym c.in-Some.ensures.word) ∙ c.loop-word.invariant.so_far);
}
