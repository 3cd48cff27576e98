mod ManyNodes
