-- A tree in postfix order, as a list from which it can be rebuilt: by it proofs tell trees apart.
use Rattle.std.specs.Prelude.{◌≡◌, ℕ, List, [], ◌∷◌, ◌++◌, ◌⊎◌, zero, suc, refl}
use Rattle.std.specs.Coded.{Coded, code_by, coded⊎, coded_ℕ, coded_list}
use Rattle.std.proofs.Common.{inl, inr, ap, ◌∙◌}
use Rattle.asm_expr.specs.declared.expression.Unary.{Unary}
use Rattle.asm_expr.specs.declared.expression.Binary.{Binary}
use Rattle.asm_expr.specs.contracts.expression.Unary as unary
use Rattle.asm_expr.specs.contracts.expression.Binary as binary
use Rattle.asm_expr.specs.Tree.{Tree, Number, Here, Named, Prefix, Infix, Parens}

-- a number or a name, a prefix operator, an infix operator, or 0 for `$` and 1 for parentheses
abbrev pub Item : Type 0
Item = (ℕ ⊎ List ℕ) ⊎ ((Unary ⊎ Binary) ⊎ ℕ)

-- a tree's operands before its operator
abbrev pub postfix_of : Tree → List Item
postfix_of (Number n) = inl (inl n) ∷ []
postfix_of Here = inr (inr 0) ∷ []
postfix_of (Named x) = inl (inr x) ∷ []
postfix_of (Prefix op a) = postfix_of a ++ inr (inl (inl op)) ∷ []
postfix_of (Infix op a b) = postfix_of a ++ (postfix_of b ++ inr (inl (inr op)) ∷ [])
postfix_of (Parens a) = postfix_of a ++ inr (inr 1) ∷ []

-- an item takes its operands from a stack of trees and leaves its tree there
abbrev pub on_stack : Item → List Tree → List Tree
on_stack (inl (inl n)) ts = Number n ∷ ts
on_stack (inl (inr x)) ts = Named x ∷ ts
on_stack (inr (inl (inl op))) [] = []
on_stack (inr (inl (inl op))) (a ∷ ts) = Prefix op a ∷ ts
on_stack (inr (inl (inr op))) [] = []
on_stack (inr (inl (inr op))) (b ∷ []) = []
on_stack (inr (inl (inr op))) (b ∷ a ∷ ts) = Infix op a b ∷ ts
on_stack (inr (inr zero)) ts = Here ∷ ts
on_stack (inr (inr (suc n))) [] = []
on_stack (inr (inr (suc n))) (a ∷ ts) = Parens a ∷ ts

-- the stack after each item in turn
abbrev pub stack_after : List Item → List Tree → List Tree
stack_after [] ts = ts
stack_after (i ∷ is) ts = stack_after is (on_stack i ts)

-- the tree on top of a stack
abbrev pub first_tree : List Tree → Tree
first_tree [] = Here
first_tree (t ∷ ts) = t

-- the tree of items in postfix order
abbrev pub tree_from : List Item → Tree
tree_from is = first_tree (stack_after is [])

stack_after-append : (is js : List Item) (ts : List Tree)
    → stack_after (is ++ js) ts ≡ stack_after js (stack_after is ts)
stack_after-append [] js ts = refl
stack_after-append (i ∷ is) js ts = stack_after-append is js (on_stack i ts)

stack_after-postfix_of : (t : Tree) (ts : List Tree) → stack_after (postfix_of t) ts ≡ t ∷ ts
stack_after-postfix_of (Number n) ts = refl
stack_after-postfix_of Here ts = refl
stack_after-postfix_of (Named x) ts = refl
stack_after-postfix_of (Prefix op a) ts =
    stack_after-append (postfix_of a) (inr (inl (inl op)) ∷ []) ts
    ∙ ap (λ s. stack_after (inr (inl (inl op)) ∷ []) s) (stack_after-postfix_of a ts)
stack_after-postfix_of (Infix op a b) ts =
    stack_after-append (postfix_of a) (postfix_of b ++ inr (inl (inr op)) ∷ []) ts
    ∙ stack_after-append (postfix_of b) (inr (inl (inr op)) ∷ []) (stack_after (postfix_of a) ts)
    ∙ ap (λ s. stack_after (inr (inl (inr op)) ∷ []) (stack_after (postfix_of b) s))
    (stack_after-postfix_of a ts)
    ∙ ap (λ s. stack_after (inr (inl (inr op)) ∷ []) s) (stack_after-postfix_of b (a ∷ ts))
stack_after-postfix_of (Parens a) ts =
    stack_after-append (postfix_of a) (inr (inr 1) ∷ []) ts
    ∙ ap (λ s. stack_after (inr (inr 1) ∷ []) s) (stack_after-postfix_of a ts)

pub tree_from-postfix_of : (t : Tree) → tree_from (postfix_of t) ≡ t
tree_from-postfix_of t = ap first_tree (stack_after-postfix_of t [])

-- trees, told apart by their items in postfix order
abbrev pub tree_code : Coded Tree
tree_code =
    code_by (List Item)
    (coded_list (coded⊎ (coded⊎ coded_ℕ (coded_list coded_ℕ))
    (coded⊎ (coded⊎ unary.the_row.coded binary.the_row.coded) coded_ℕ)))
    postfix_of tree_from tree_from-postfix_of
