use Rattle.std.proofs.Common.{◌≡◌, ℕ, ◌+◌, ◌-◌, ◌++◌, ◌∷◌, [], slice_index_or, List, All, map, length, ap, ◌∙◌, subst, arith}
use mathlib.Core.List.{IsPrefix}
use Rattle.frames.specs.declared.sample.Change.{Change}
use Rattle.frames.specs.declared.sample.Sample.{Sample}
use Rattle.frames.specs.States.{after}
use Rattle.frames.specs.Ends.{WriterView}
use Rattle.frames.proofs.LawLemmas.{prefix_trans}
use Rattle.std.proofs.lemmas.List.{length-map}
use Rattle.viewer.specs.Samples.{IsStateOf, clipped}
use Rattle.watching.proofs.Last.{last_clipped, map_last, map_number}
use Rattle.watching.proofs.viewers.finish_one.Goals as goal

pub returns-clause-done : goal.returns-clause-done
returns-clause-done c =
    let w = c.args.writer.now in
    let one = c.in_ok-tell.field-0 in
    let two = c.in_ok-tell-2.field-0 in
    let first = c.learn.new.self in
    let taken = c.sample.new.self in
    let new = c.learn-2.new.self in
    let same : c.tell.new.self ≡ w = c.in_ok-tell.ensures.writer in
    let list : two.list ≡ w.published = c.in_ok-tell-2.ensures.list ∙ ap (λ (x : WriterView). x.published) same in
    let state : two.state ≡ after w.name.start w.published = c.in_ok-tell-2.ensures.told.1 ∙ (ap (λ (x : WriterView). after x.name.start two.list) same ∙ ap (λ l. after w.name.start l) list) in
    let writer : taken.writer ≡ w.name = c.sample.ensures.writer ∙ (c.learn.ensures.writer ∙ c.requires.writer_is) in
    let start : taken.writer.start ≡ w.name.start = ap (λ n. n.start) writer in
    let begun : IsPrefix w.published first.longest = subst (λ (l : List Change). IsPrefix l first.longest) c.in_ok-tell.ensures.list c.learn.ensures.told in
    let begins : IsPrefix w.published taken.longest = prefix_trans w.published first.longest taken.longest begun c.sample.ensures.grows in
    let s : Sample = after taken.writer.start taken.longest in
    let final : clipped two.state s ≡ after w.name.start w.published = last_clipped w.name.start w.published taken.longest two.state s state (ap (λ (x : List ℕ). after x taken.longest) start) begins in
    let all : new.samples ≡ map (clipped two.state) (map (clipped one.state) c.args.viewer.now.samples ++ s ∷ []) =
    c.learn-2.ensures.samples ∙ ap (λ (ss : List Sample). map (clipped two.state) ss) (c.sample.ensures.samples ∙ ap (λ (ss : List Sample). ss ++ s ∷ []) c.learn.ensures.samples) in
    let number : length (map (clipped one.state) c.args.viewer.now.samples) ≡ c.args.before + 1 - 1 = simp length-map (omega (arith, c.requires.taken_is)) in
    record {
      number = ap length all ∙ map_number (clipped two.state) (clipped one.state) c.args.viewer.now.samples s c.args.before c.requires.taken_is;
      states = subst (λ (x : List ℕ). All (IsStateOf x w.published) new.samples) (ap (λ n. n.start) c.learn-2.ensures.writer ∙ start)
          (subst (λ (l : List Change). All (IsStateOf new.writer.start l) new.samples) list c.learn-2.ensures.states);
      rises = c.learn-2.ensures.rise;
      last = λ d. ap (λ (ss : List Sample). slice_index_or ss (c.args.before + 1 - 1) d) all ∙ (map_last (clipped two.state) (map (clipped one.state) c.args.viewer.now.samples) s (c.args.before + 1 - 1) d number ∙ final);
    }
