use Rattle.std.proofs.Common.{◌≡◌, ℕ, List, ◌++◌, length, take, drop, replicate, sym, ap, subst, ◌∙◌}
use Rattle.std.proofs.lemmas.List.{drop-replicate}
use Rattle.std.proofs.Math.Seq.{take-append_seam}
use Rattle.goal_lexer.specs.Padding.{padded}
use Rattle.goal_lexer.proofs.labels.Label.write.Goals as goal

-- bytes and the zeros after them
padded_bytes_are_bytes_and_zeros : (bytes : List ℕ) → padded (take (length bytes) (bytes ++ drop (length bytes) (replicate 64 0))) ≡ bytes ++ drop (length bytes) (replicate 64 0)
padded_bytes_are_bytes_and_zeros bytes =
    ap padded (take-append_seam bytes (drop (length bytes) (replicate 64 0)))
    ∙ ap (λ (zeros : List ℕ). bytes ++ zeros) (sym (drop-replicate (length bytes) 64 0))

pub invariant_of-self : goal.invariant_of-self
invariant_of-self c =
    let text = c.args.text.now in (
      c.requires.some,
      c.requires.most,
      subst (λ (front : List ℕ). padded (take (length text) (front ++ drop (length text) (replicate 64 0))) ≡ front ++ drop (length text) (replicate 64 0))
          (sym c.copy_from_slice.ensures.after) (padded_bytes_are_bytes_and_zeros text),
    )
