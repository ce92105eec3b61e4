-- In format 1 the reply to what is made of a line is the reply to the line.
use Rattle.std.proofs.Common.{◌≡◌, ap, sym, ◌∙◌, subst, ℕ, Bool, false, cond, List, [], ◌↔◌}
use Rattle.std.specs.Prelude.{◌&&◌}
use Rattle.cg_query.specs.Tree.{Question, asks, defines}
use Rattle.cg_query.specs.declared.format.Format.TheVariants as formats
use Rattle.cg_grammar.specs.Lines.{IsColumn, IsComment, IsUnread, Reads, is_blank_line}
use Rattle.cg_grammar.proofs.Whole.{defines_none, stated_or_column}
use Rattle.cg_query.specs.Heights.{trees_of_question}
use Rattle.cg_syntax.specs.Naming.{Bindings, IsClosedQuestion, are_too_large, first_unknown, question_expanded, uses_of}
use Rattle.cg_syntax.specs.Session.{Asked_of, IsLine, Resolved, Too_large, by_names, has_some, refused, resolved, stated}
use Rattle.cg_syntax.proofs.Closed.{closed_unused, same_question}
use Rattle.cg_eval.specs.Reply.{IsReply, Piece}
use Rattle.cg_eval.proofs.Replies.{reply-read, reply-unread}
use Rattle.cg_session.specs.Replies.{IsReplyFor}

-- a question without names is made of itself
made_plain : (bs : Bindings) (q : Question) → uses_of (trees_of_question q) ≡ [] → resolved bs q ≡ Asked_of q
made_plain bs q none =
    let large : Bool = are_too_large (trees_of_question (question_expanded bs q)) in
    ap (λ (us : List (List ℕ × ℕ)). by_names bs q (first_unknown bs us)) none
    ∙ ap (λ (us : List (List ℕ × ℕ)). cond (has_some us && large) Too_large (Asked_of (question_expanded bs q))) none
    ∙ ap Asked_of (same_question bs q none)

module _ (share positions : ℕ) (line : List ℕ) (reply : Piece) where
  pub to_line : (before behind : Bindings) (made : Resolved) → is_blank_line line ≡ false → ¬ IsComment line
      → ((p q : Question) → Reads line p → Reads line q → p ≡ q) → ((c d : ℕ) → IsColumn line c → IsColumn line d → c ≡ d)
      → ((q : Question) → Reads line q → IsClosedQuestion q)
      → IsLine formats.One before line made behind → IsReplyFor share positions made reply ↔ IsReply share positions line reply
  unfolding IsReplyFor
  to_line before behind made blank comment one column closed (stated (asks q) reads) =
      let same = made_plain before q (closed_unused q (closed q reads)) in
      let P : Resolved → Type 0 = λ r. IsReplyFor share positions r reply in (
        λ h. reply-read share positions line q reply one reads (subst P same h),
        λ h. subst P (sym same) (h.read q reads),
      )
  to_line before behind made blank comment one column closed (stated (defines word t) reads) = absurd (defines_none line word t reads)
  to_line before behind made blank comment one column closed (refused c at) =
      let unread : IsUnread line c = record {
        not_blank = blank;
        not_comment = comment;
        no_question = λ q reads. stated_or_column formats.One line (asks q) c reads at;
        at = at;
      } in (
        λ h. reply-unread share positions line c reply column unread h,
        λ h. h.unread c unread,
      )
